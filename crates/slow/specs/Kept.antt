-- The past as the code holds it, and a call before it is answered.
use Rattle.std.specs.Prelude.{ℕ, zero, suc, ◌≡◌, Bool, false, List, [], ◌∷◌, get_or}
use Rattle.model.specs.declared.Record as call
use Rattle.model.specs.Heard.{heard}
use Rattle.model.specs.Heard as hears
use Rattle.model.specs.Record.{Fields, fields_of}
use Rattle.model.specs.CallList.{call_at}
use Rattle.account.specs.declared.Deed.{Deed}
use Rattle.slow.specs.declared.deeds.Past.{Past}
use Rattle.slow.specs.declared.CallAnswer.{CallAnswer}
use Rattle.account.specs.Deeds.{deed_by}
use Rattle.slow.specs.Replays.{call_said, unanswered}

-- a call before it is answered, as a deed; and a deed's fields
abbrev pub called : ℕ → ℕ → ℕ → ℕ → Deed
called kind process channel body =
    record { kind = kind; process = process; channel = channel; body = body; marker = false; made = 0 }

abbrev pub unheard : Fields → Deed
unheard f = deed_by f hears.acceptance 0

abbrev pub asked : Deed → Fields
asked d = record { kind = d.kind; process = d.process; channel = d.channel; body = d.body }

-- a place past the array reads as a deed that is none
abbrev pub nothing : Deed
nothing = called 0 0 0 0

abbrev pub deed_at : Past → ℕ → Deed
deed_at past i = get_or past.deeds i nothing

-- the first n of them, the latest first
unfoldable pub latest : ℕ → (ℕ → Deed) → List Deed
latest zero f = []
latest (suc n) f = f n ∷ latest n f

unfoldable pub past_of : Past → List Deed
past_of past = latest past.count (deed_at past)

-- what a closure answers of a deed, by its clauses, is this test
abbrev pub Tests : (Deed → Bool → Type 0) → (Deed → Bool) → Type 0
Tests answers test = (d : Deed) (t : Bool) → answers d t → t ≡ test d

-- what the call at a place of a list did, by the answer at that place
abbrev pub deed_for : List call.Record → List CallAnswer → ℕ → Deed
deed_for calls answers i =
    let a : CallAnswer = get_or answers i unanswered in
    deed_by (fields_of (call_at calls i)) (heard (call_said a.outcome)) a.made
