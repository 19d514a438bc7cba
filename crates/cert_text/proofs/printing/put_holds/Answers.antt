use Rattle.std.proofs.Common.{codes}
use Rattle.cert_text.specs.Lines.{subject_words, family_words}
use Rattle.std.proofs.lemmas.Result.{on_ok_weaker}
use Rattle.cert_text.proofs.TextLemmas.{two_put}
use Rattle.cert_text.proofs.printing.put_holds.Goals as goal

pub returns-clause-text : goal.returns-clause-text
returns-clause-text c =
    on_ok_weaker c.put_family.result
    (two_put (codes "some") (subject_words c.args.subject.now) (family_words c.args.family.now) c.args.out.now.items c.extend_from_slice.new.self.items c.put_subject.new.out.items c.put_family.new.out.items
    c.in_ok-extend_from_slice.ensures.items c.in_ok-put_subject.ensures.text)
    c.put_family.ensures.text
