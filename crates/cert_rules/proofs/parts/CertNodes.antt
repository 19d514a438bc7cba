-- The lines of a listing's certificate stand at exactly the nodes that it shows.
use Rattle.std.proofs.Common.{◌≡◌, List, Option, sym, ap, ◌∙◌}
use Rattle.rcc5_core.specs.declared.Rel.{Rel}
use Rattle.cert_text.specs.Ends.{TextEnd, Whole, Faulty}
use Rattle.cert_reader.specs.Reading.{reading}
use Rattle.cert_rules.specs.Listings.{Status, Going, Ended, Rejected, Stand, Listed, listing_status}
use Rattle.cert_rules.specs.ShownNodes.{LinesAreNodes}
use Rattle.cert_rules.specs.Files.{Listing, Accepts, as_listing, settle, answer_of}
use Rattle.cert_rules.specs.Parts.Certs.{CertLinesAreNodes}

-- lines that are accepted as a listing come to its end
ended_at : {K : Type 0} (from begin : List Rel) (to : Option (List Rel)) (worlds : List (List Rel)) (status : Status Stand Listed) (end : TextEnd K)
    → settle (as_listing from) status end ≡ Accepts (Listing begin to worlds) → status ≡ Ended (record { to = to; worlds = worlds })
ended_at from begin to worlds (Going n s) Whole e = cc
ended_at from begin to worlds (Going n s) (Faulty number kind) e = cc
ended_at from begin to worlds (Ended listed) Whole e =
    let to_is : listed.to ≡ to = cc in
    let worlds_are : listed.worlds ≡ worlds = cc in
    ap (λ to. Ended (record { to = to; worlds = listed.worlds })) to_is ∙ ap (λ worlds. Ended (record { to = to; worlds = worlds })) worlds_are
ended_at from begin to worlds (Ended listed) (Faulty number kind) e = cc
ended_at from begin to worlds (Rejected number kind) end e = cc

pub cert_lines_law : LinesAreNodes → CertLinesAreNodes
cert_lines_law are p built from to worlds bytes cert =
    let accepted = sym (ap (λ lines. answer_of p lines (reading bytes).ends) cert.read) ∙ cert.accepted in
    are p built p.switches from cert.lines (record { to = to; worlds = worlds })
    (ended_at from from to worlds (listing_status p p.switches from cert.lines) (reading bytes).ends accepted) cert.alive
