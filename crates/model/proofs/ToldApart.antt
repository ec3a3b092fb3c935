-- What an answer says tells the answer (the statement is ToldApart of specs/ToldApart.antt): each number leads back to
-- its refusal, and what is said to its outcome.
use Prim.Native.Nat.{ℕ, ◌-◌}
use mathlib.Core.Path.{◌≡◌, refl, sym, ap, ◌∙◌}
use mathlib.Core.List.{List, [], ◌∷◌}
use lib.ListN.{get_or}
use Rattle.model.specs.declared.Outcome.{Outcome}
use Rattle.model.specs.declared.Outcome.TheVariants as outcome
use Rattle.model.specs.declared.Refusal.{Refusal}
use Rattle.model.specs.declared.Refusal.TheVariants.{ProcessCount, ChannelCount, UnknownEnd, SelfChannel}
use Rattle.model.specs.declared.Refusal.TheVariants.{DoubledChannel, ShortStore, Malformed, NoSuch, ChannelFull}
use Rattle.model.specs.declared.Refusal.TheVariants.{ChannelEmpty, LogFull, NotNow, LastLine, MarkerOnClosed}
use Rattle.model.specs.declared.Refusal.TheVariants.{Unsound, BadCount, NothingRefused, LongList, UnknownLate}
use Rattle.model.specs.Outcome.{Said, done, sent, took, note, line, refused, cut, refusal_number, said_by}
use Rattle.model.specs.ToldApart.{ToldApart}

-- the refusals in the order of their numbers, from 1 on
abbrev in_number_order : List Refusal
in_number_order =
    ProcessCount ∷ ChannelCount ∷ UnknownEnd ∷ SelfChannel ∷ DoubledChannel
    ∷ ShortStore ∷ Malformed ∷ NoSuch ∷ ChannelFull ∷ ChannelEmpty
    ∷ LogFull ∷ NotNow ∷ LastLine ∷ MarkerOnClosed ∷ Unsound ∷ BadCount ∷ NothingRefused ∷ LongList
    ∷ UnknownLate ∷ []

abbrev refusal_for : ℕ → Refusal
refusal_for n = get_or in_number_order (n - 1) ProcessCount

refusal_back : (r : Refusal) → refusal_for (refusal_number r) ≡ r
refusal_back ProcessCount = refl
refusal_back ChannelCount = refl
refusal_back UnknownEnd = refl
refusal_back SelfChannel = refl
refusal_back DoubledChannel = refl
refusal_back ShortStore = refl
refusal_back Malformed = refl
refusal_back NoSuch = refl
refusal_back ChannelFull = refl
refusal_back ChannelEmpty = refl
refusal_back LogFull = refl
refusal_back NotNow = refl
refusal_back LastLine = refl
refusal_back MarkerOnClosed = refl
refusal_back Unsound = refl
refusal_back BadCount = refl
refusal_back NothingRefused = refl
refusal_back LongList = refl
refusal_back UnknownLate = refl

abbrev outcome_for : Said → Outcome
outcome_for done = outcome.Done
outcome_for (sent n) = outcome.Sent n
outcome_for (took b) = outcome.Received b
outcome_for note = outcome.ReceivedMarker
outcome_for (line k) = outcome.Done
outcome_for (refused n) = outcome.Refused (refusal_for n)
outcome_for cut = outcome.PowerLost

outcome_back : (o : Outcome) → outcome_for (said_by o) ≡ o
outcome_back outcome.Done = refl
outcome_back (outcome.Sent n) = refl
outcome_back (outcome.Received b) = refl
outcome_back outcome.ReceivedMarker = refl
outcome_back (outcome.Refused r) = ap outcome.Refused (refusal_back r)
outcome_back outcome.PowerLost = refl

pub told_apart : ToldApart
told_apart =
    record {
      refusals = λ a b e. sym (refusal_back a) ∙ (ap refusal_for e ∙ refusal_back b);
      outcomes = λ a b e. sym (outcome_back a) ∙ (ap outcome_for e ∙ outcome_back b);
    }
