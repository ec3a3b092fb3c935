-- Document 02, M-106: "keeps no state or store, but the whole list of up to 256 steps and restarts with their answers".
-- What a call did is its deed, by its fields and by what the books hear of its answer (model's specs/Heard.antt), with
-- the stores it made. The past is a list of deeds, the latest first, and three questions are put to it.
use Rattle.std.specs.Prelude.{ℕ, ◌+◌, Bool, true, false, cond, ◌&&◌, ◌||◌, List, [], ◌∷◌, eqb}
use Rattle.model.specs.declared.Record.TheVariants as records
use Rattle.model.specs.Heard.{Heard, heard, is_accepted}
use Rattle.model.specs.Heard as hears
use Rattle.model.specs.Record.{Fields, fields_of}
use Rattle.model.specs.Run.{Call, call, recovery, Reply}
use Rattle.account.specs.declared.Deed.{Deed}

-- the fields of a call, its kind "1 to 9, as numbered above"
unfoldable pub fields_for : Call → Fields
fields_for (call x budget) = fields_of (records.Call x)
fields_for recovery = fields_of records.Recover

-- the body received; where none was, that of the call
abbrev pub body_heard : Heard → ℕ → ℕ
body_heard hears.nothing b = b
body_heard hears.acceptance b = b
body_heard hears.marker b = b
body_heard (hears.body received) b = received

abbrev pub marker_heard : Heard → Bool
marker_heard hears.nothing = false
marker_heard hears.acceptance = false
marker_heard hears.marker = true
marker_heard (hears.body received) = false

-- kind 0 where the call was not accepted: such a deed answers no question below
unfoldable pub deed_by : Fields → Heard → ℕ → Deed
deed_by f o made =
    record {
      kind = cond (is_accepted o) f.kind 0;
      process = f.process;
      channel = f.channel;
      body = body_heard o f.body;
      marker = marker_heard o;
      made = made;
    }

unfoldable pub deed_of : Reply → Deed
deed_of r = deed_by (fields_for r.call) (heard r.outcome) r.made

-- the past: what was done, the latest first
abbrev pub Past : Type 0
Past = List Deed

-- the past after these replies, which are in their order
unfoldable pub onto : Past → List Reply → Past
onto past [] = past
onto past (r ∷ rs) = onto (deed_of r ∷ past) rs

-- Questions to the past: whether some deed passes a test, how many do, and the part after the latest that passes.
unfoldable pub any : (Deed → Bool) → Past → Bool
any test [] = false
any test (d ∷ ds) = test d || any test ds

unfoldable pub number : (Deed → Bool) → Past → ℕ
number test [] = 0
number test (d ∷ ds) = cond (test d) (number test ds + 1) (number test ds)

unfoldable pub since : (Deed → Bool) → Past → Past
since stop [] = []
since stop (d ∷ ds) = cond (stop d) [] (d ∷ since stop ds)

-- a deed of kind k; and one on channel c
abbrev pub did : ℕ → Deed → Bool
did k d = eqb d.kind k

abbrev pub on_channel : ℕ → ℕ → Deed → Bool
on_channel k c d = did k d && eqb d.channel c

-- a commit, abort or recover (finish, give up, restart): the round is over
abbrev pub ends : Deed → Bool
ends d = did 7 d || (did 8 d || did 9 d)
