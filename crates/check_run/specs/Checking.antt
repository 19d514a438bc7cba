-- What the command that checks a certificate answers.
use Rattle.std.specs.Prelude.{◌≡◌, ℕ, List, [], ◌∷◌, ◌++◌, length, flat_map, Option, Result, Ok, Err, codes, decimal, Bool, if◌then◌else◌}
use Rattle.std.specs.List.{join_with_byte}
use Rattle.outer_store.specs.Contents.{Contents}
use Rattle.world_model.specs.declared.Switches.{Switches}
use Rattle.world_model.specs.Problem.{Problem}
use Rattle.cleantax_text.specs.declared.TextKind.{TextKind}
use Rattle.cleantax_text.specs.Reading.{text_result}
use Rattle.proof_text.specs.Words.{position_word}
use Rattle.cert_text.specs.Lines.{end_word, subject_words}
use Rattle.cert_reader.specs.declared.fault.CertTextKind.{CertTextKind}
use Rattle.cert_reader.specs.Bytes.{MayHold, ForSome}
use Rattle.cert_rules.specs.ClaimLists.{Claim}
use Rattle.cert_rules.specs.Files.{Verdict, Listing, ClaimList, Answer, Accepts, Rejects, HasFault}
use Rattle.cert_rules.specs.Parts.Certs.{cert_answer}
use Rattle.run_ends.specs.declared.Status.{Status}
use Rattle.run_ends.specs.declared.Status.TheVariants.{Done, RefusedText, RefusedCert, Rejected}
use Rattle.run_ends.specs.Ends.{line_of, world_line, end_line}
use Rattle.command_line.specs.Requests.{Names}
use Rattle.run_ends.specs.Runs.{File}

-- the line of a claim: whether it holds, and its subject
abbrev pub claim_word : Bool → List ℕ
claim_word holds = if holds then codes "some" else codes "none"

abbrev pub claim_line : Claim → List ℕ
claim_line claim = line_of (join_with_byte 32 (claim_word claim.holds ∷ subject_words claim.subject))

-- the last line, of so many worlds or claims
abbrev pub accepted_line : ℕ → List ℕ
accepted_line count = line_of (codes "accepted " ++ decimal count)

-- what is put of an accepted certificate: from where to where it lists, and its worlds; or its claims
abbrev pub verdict_text : Verdict → List ℕ
verdict_text (Listing from to worlds) =
    line_of (codes "from " ++ position_word from) ++
    (flat_map world_line worlds ++ (line_of (codes "to " ++ end_word to) ++ accepted_line (length worlds)))
verdict_text (ClaimList claims) = flat_map claim_line claims ++ accepted_line (length claims)

-- how a run ends by the answer to a certificate
abbrev pub status_by : Answer CertTextKind → Status
status_by (Accepts verdict) = Done
status_by (Rejects line kind) = Rejected line kind
status_by (HasFault line kind) = RefusedCert line kind

-- and what it puts
abbrev pub text_by : Answer CertTextKind → List ℕ
text_by (Accepts verdict) = verdict_text verdict
text_by (Rejects line kind) = end_line (Rejected line kind)
text_by (HasFault line kind) = end_line (RefusedCert line kind)

-- what comes of the certificate of a problem, by bytes that there may be under its name
abbrev pub IsCertAnswer : Problem → Option (List ℕ) → Status → List ℕ → Type 0
IsCertAnswer p told status text = ForSome (MayHold told) (λ bytes. (status ≡ status_by (cert_answer p bytes)) × (text ≡ text_by (cert_answer p bytes)))

-- what comes of a problem's text and a certificate
abbrev pub IsAnswerBy : Result Problem (ℕ × TextKind) → Option (List ℕ) → Status → List ℕ → Type 0
IsAnswerBy (Ok p) told status text = IsCertAnswer p told status text
IsAnswerBy (Err fault) told status text = (status ≡ RefusedText fault.0 fault.1) × (text ≡ end_line (RefusedText fault.0 fault.1))

-- the answers to a check of the certificate under one name for the problem under another
pub record IsCheckAnswer (input cert : List ℕ) (switches : Switches) (held : Contents) (status : Status) (text : List ℕ) (files : List File) : Type 0 where
  pub bytes : List ℕ
  pub told : MayHold (held input) bytes
  pub answer : IsAnswerBy (text_result bytes switches) (held cert) status text
  pub none_written : files ≡ []

-- the names that it reads; it writes none
abbrev pub check_names : List ℕ → List ℕ → Names
check_names input cert = record { read = input ∷ cert ∷ []; written = [] }
