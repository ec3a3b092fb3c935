-- With full current, each call of any list is answered as the past before it tells (the statement is
-- specs/PastAnswers.antt).
use mathlib.Core.Path.{◌≡◌, refl, ap}
use mathlib.Core.Bool.{true}
use mathlib.Core.List.{List, [], ◌∷◌, map}
use mathlib.Core.Option.{none}
use Rattle.model.specs.declared.Topology.{Topology}
use Rattle.model.specs.declared.Record.{Record}
use Rattle.model.specs.Topology.{topology_refusal}
use Rattle.model.specs.Sound.{sound}
use Rattle.model.specs.Program.{full_budget}
use Rattle.model.specs.ProgramsAreRuns.{call_with}
use Rattle.model.specs.Run.{Call, World, Reply, reply_to, next, run, trace, first_world}
use Rattle.model.proofs.line.RecoverKept.{topology_accepted}
use Rattle.model.proofs.Reached.{reached}
use Rattle.account.specs.Deeds.{Past, deed_of}
use Rattle.account.specs.PastAnswers.{replies_by, PastAnswers}
use Rattle.account.proofs.Known.{Known, known_next, known_first}
use Rattle.account.proofs.Next.{answered_by}

module _ (T : Topology) (good : topology_refusal T ≡ none) where
  -- sound after any calls
  abbrev StaysSound : World → Type 0
  StaysSound w = (calls : List Call) → sound (run T w calls).state ≡ true

  replies_are : (w : World) (past : Past) → Known T w past → StaysSound w → (contents : List Record)
      → replies_by T past (map (call_with full_budget) contents) ≡ trace T w (map (call_with full_budget) contents)
  unfolding replies_by trace run
  replies_are w past k fit [] = refl
  replies_are w past k fit (content ∷ contents) =
      let c : Call = call_with full_budget content in
      rw (answered_by T good w past k (fit []) content)
      (ap (λ (rs : List Reply). reply_to T w c ∷ rs)
      (replies_are (next T w c) (deed_of (reply_to T w c) ∷ past) (known_next T good w past k c) (λ cs. fit (c ∷ cs))
      contents))

pub past_answers : PastAnswers
past_answers T store ready contents =
    replies_are T (topology_accepted T store ready) (first_world T store) [] (known_first T store ready)
    (λ calls. (reached T store ready calls).sound) contents
