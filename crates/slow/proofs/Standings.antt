-- Laws of the state that is worked out: its arrays, place by place, and what each place holds.
use Prim.Native.Nat.{ℕ, ◌<◌, ◌≤◌}
use mathlib.Core.Path.{◌≡◌, refl, ap, ap₂, fun_ext, ◌∙◌}
use mathlib.Core.Bool.{Bool, true, false, not, ◌&&◌, beq}
use mathlib.Core.List.{List, []}
use lib.ListN.{get_or, replicate}
use lib.Dec.{ltb}
use borrow.Author.Tests.{ltb-true, ltb-false, lt-ltb}
use Rattle.model.specs.declared.Topology.{Topology}
use Rattle.model.specs.declared.Places.{Places}
use Rattle.model.specs.declared.Entry.{Entry}
use Rattle.model.specs.Notation.{tabulate}
use Rattle.model.specs.Channel.{entries}
use Rattle.model.specs.declared.Flags.{Flags}
use Rattle.model.specs.State.{entries_in, Progress, view_progress}
use Rattle.model.specs.History.{History}
use Rattle.model.proofs.laws.Tests.{Tested, holds, fails, test}
use Rattle.model.proofs.laws.Functions.{seen_replicate}
use Rattle.account.specs.declared.Deed.{Deed}
use Rattle.account.specs.Round.{turned}
use Rattle.account.specs.Standing.{within, state_of, state_from}
use Rattle.account.specs.Contents.{history_of, holds_marker, behind, under_way, channel_by, has_mark, turned_by}
use Rattle.std.proofs.Common.{Option, None, Some}
use Rattle.std.specs.Option.{is_some}
use Rattle.slow.specs.Seen.{mark_of, with_marker_if}

-- an array whose first n cells hold what g says, and the others z
pub tabled : {B : Type 0} (l : List B) (n size : ℕ) (z : B) (g : ℕ → B) → ((i : ℕ) → i < n → get_or l i z ≡ g i)
    → ((i : ℕ) → n ≤ i → get_or l i z ≡ get_or (replicate size z) i z) → (λ (i : ℕ). get_or l i z) ≡ within n g z
tabled l n size z g told other = fun_ext (λ i. go i (test (ltb i n)))
  where
    go : (i : ℕ) → Tested (ltb i n) → get_or l i z ≡ within n g z i
    go i (holds e) = rw e (told i (ltb-true i n e))
    go i (fails e) = rw e (other i (ltb-false i n e) ∙ ap (λ (f : ℕ → _). f i) (seen_replicate size z))

-- the arrays of the channels' places and lengths
pub holding : (places : List Places) (lengths : List ℕ) (n : ℕ) (g : ℕ → List Entry)
    → ((c : ℕ) → c < n → entries_in places lengths c ≡ g c)
    → ((c : ℕ) → n ≤ c → ◌≡◌ {A = ℕ} (get_or lengths c 0) (get_or (replicate 64 0) c 0))
    → entries_in places lengths ≡ within n g []
unfolding entries tabulate
holding places lengths n g told other = fun_ext (λ c. go c (test (ltb c n)))
  where
    go : (c : ℕ) → Tested (ltb c n) → entries_in places lengths c ≡ within n g [] c
    go c (holds e) = rw e (told c (ltb-true c n e))
    go c (fails e) = rw (e, other c (ltb-false c n e), ap (λ (f : ℕ → ℕ). f c) (seen_replicate 64 0))

-- what a place holds
pub has_mark_in_lem : (m : Option ℕ) → is_some m ≡ has_mark (mark_of m)
unfolding has_mark
has_mark_in_lem None = refl
has_mark_in_lem (Some m) = refl

pub tag_is : (t x : Bool) → not (beq t x) ≡ turned_by t x
unfolding turned_by
tag_is true true = refl
tag_is true false = refl
tag_is false true = refl
tag_is false false = refl

-- whether a marker is on a channel, by the flags that tell of it
pub marker_is : (T : Topology) (ds : List Deed) (c : ℕ) → c < T.channels → (f : Flags)
    → view_progress f ≡ (state_of T ds).progress → {sent closed : Bool} → sent ≡ get_or f.sent c false
    → closed ≡ get_or f.closed c false → sent && not closed ≡ holds_marker c ds
unfolding view_progress state_of state_from
marker_is T ds c l f e a b =
    let planned : ltb c T.channels ≡ true = lt-ltb c T.channels l in
    ap₂ (λ (x y : Bool). x && not y) (a ∙ ap (λ (x : Progress). x.sent c) e ∙ rw planned)
    (b ∙ ap (λ (x : Progress). x.closed c) e ∙ rw planned)

pub channel_is : (T : Topology) (ds : List Deed) (c : ℕ) (x t : Bool) (h : History) → x ≡ holds_marker c ds
    → t ≡ turned ds → h ≡ history_of T ds
    → with_marker_if x (behind c ds) (under_way T t h c) ≡ channel_by T ds (history_of T ds) c
unfolding channel_by
channel_is T ds c x t h a b e = rw (a, b, e)
