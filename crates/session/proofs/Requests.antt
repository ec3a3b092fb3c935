-- Laws of reading a request: no budget, no record after it, or both.
use Rattle.std.proofs.Common.{◌≡◌, ℕ, List, sym}
use Rattle.std.proofs.Math.Option.{none, some}
use Rattle.model.specs.declared.Record.{Record}
use Rattle.model.specs.Record.{and_then, read_record}
use Rattle.model.specs.Program.{BudgetSource, read_budget, read_request}
use Rattle.record.specs.RecordRead.{record_is, refuses, record_in, remaining}
use Rattle.record.proofs.Answered.{no_record, a_record}

module _ (source : BudgetSource) (bytes : List ℕ) where
  pub no_budget : none ≡ read_budget source bytes → none ≡ read_request source bytes
  unfolding read_request and_then
  no_budget e = rw (← e)

  module _ {content : List ℕ} {b : ℕ} (lasts : some (b, content) ≡ read_budget source bytes) where
    pub no_content : {n : ℕ} → refuses n ≡ record_in (read_record content) → none ≡ read_request source bytes
    unfolding read_request and_then
    no_content e = rw (← lasts, no_record (read_record content) (sym e))

    pub a_request : {r : Record} {rest : List ℕ} → record_is r ≡ record_in (read_record content)
        → rest ≡ remaining (read_record content) content
        → some (record { content = r; budget = b }, rest) ≡ read_request source bytes
    unfolding read_request and_then
    a_request e h = rw (← lasts, a_record content (read_record content) (sym e), h)
