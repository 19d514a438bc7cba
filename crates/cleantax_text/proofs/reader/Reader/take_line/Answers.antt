use Rattle.cleantax_text.specs.Kept.{meant}
use Rattle.cleantax_text.specs.Views.{form_meant}
use Rattle.cleantax_text.proofs.KeptLemmas.{kept_taken}
use Rattle.cleantax_text.proofs.reader.Reader.take_line.Goals as goal

pub returns-clause-kept : goal.returns-clause-kept
returns-clause-kept c =
    kept_taken (meant c.args.self.now) c.args.line.now (form_meant c.in_ok-form.form) (meant c.take_form.new.self) c.take_form.result
    c.requires c.in_ok-form.ensures.form c.take_form.ensures.ok
