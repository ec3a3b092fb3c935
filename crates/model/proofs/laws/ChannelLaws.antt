-- Laws of a channel: of its entries as a list (bodies, messages, markers), and of the arrays that hold them (how many
-- there are, a place written, one more, the first and the rest).
use Prim.Native.Nat.{ℕ, zero, suc, ◌+◌, ◌-◌, ◌<◌, ◌≤◌}
use mathlib.Core.Path.{◌≡◌, refl, sym, ap, ◌∙◌}
use mathlib.Core.Bool.{Bool, true, false}
use mathlib.Core.List.{List, [], ◌∷◌, ◌++◌, append-nil, map-append}
use lib.ListN.{length, get_or, set, drop, get_or-eq_default}
use lib.Seq.{get_or-set_same, get_or-set_other}
use native.Mathlib.Omega.{arith}
use native.Mathlib.Numerals.{add-one}
use Rattle.model.specs.declared.Channel.{Channel}
use Rattle.model.specs.declared.Entry.{Entry}
use Rattle.model.specs.declared.Entry.TheVariants.{Message, Marker}
use Rattle.model.specs.Notation.{tabulate}
use Rattle.model.specs.Channel.{entry_of, entry_at, entries, bodies, markerless, messages}
use Rattle.model.proofs.laws.Lists.{tabulate_length, tabulate_cong, tabulate_cons, tabulate_more}

pub bodies_append : (xs ys : List Entry) → bodies (xs ++ ys) ≡ bodies xs ++ bodies ys
unfolding bodies
bodies_append [] ys = refl
bodies_append (Message b t ∷ xs) ys = ap (λ (l : List ℕ). b ∷ l) (bodies_append xs ys)
bodies_append (Marker ∷ xs) ys = bodies_append xs ys

pub bodies_messages : (t : Bool) (bs : List ℕ) → bodies (messages t bs) ≡ bs
unfolding bodies messages
bodies_messages t [] = refl
bodies_messages t (b ∷ bs) = ap (λ (l : List ℕ). b ∷ l) (bodies_messages t bs)

pub bodies_length : (es : List Entry) → length (bodies es) ≤ length es
unfolding bodies
bodies_length [] = omega arith
bodies_length (Message b t ∷ es) = omega (arith, bodies_length es)
bodies_length (Marker ∷ es) = omega (arith, bodies_length es)

pub messages_markerless : (t : Bool) (bs : List ℕ) → markerless (messages t bs) ≡ true
unfolding markerless messages
messages_markerless t [] = refl
messages_markerless t (b ∷ bs) = messages_markerless t bs

pub messages_append : (t : Bool) (xs ys : List ℕ) → messages t (xs ++ ys) ≡ messages t xs ++ messages t ys
unfolding messages
messages_append t xs ys = map-append (λ b. Message b t) xs ys

pub messages_snoc : (t : Bool) (bs : List ℕ) (b : ℕ) → messages t (bs ++ (b ∷ [])) ≡ messages t bs ++ (Message b t ∷ [])
unfolding messages
messages_snoc t bs b = messages_append t bs (b ∷ [])

messages_tabulate : (n : ℕ) (f : ℕ → ℕ) → tabulate n (λ i. Message (f i) false) ≡ messages false (tabulate n f)
unfolding tabulate messages
messages_tabulate zero f = refl
messages_tabulate (suc n) f =
    rw (messages_tabulate n f) (sym (messages_append false (tabulate n f) (f n ∷ [])))

pub entries_count : (c : Channel) → length (entries c) ≡ c.count
unfolding entries
entries_count c = tabulate_length c.count (entry_at c)

-- a channel with place i written
abbrev pub written : Channel → ℕ → ℕ → ℕ → Channel
written c i k b = record { bodies = set c.bodies i b; kinds = set c.kinds i k; count = c.count }

pub at_written : (c : Channel) (i k b : ℕ) → i < length c.kinds → i < length c.bodies
    → entry_at (written c i k b) i ≡ entry_of k b
at_written c i k b lk lb = rw (get_or-set_same c.kinds i k 0 lk, get_or-set_same c.bodies i b 0 lb)

pub at_other : (c : Channel) (i j k b : ℕ) → (j ≡ i → ⊥) → entry_at (written c i k b) j ≡ entry_at c j
at_other c i j k b n = rw (get_or-set_other c.kinds i j k 0 n, get_or-set_other c.bodies i j b 0 n)

-- a place past the arrays
pub at_past : (c : Channel) (i : ℕ) → length c.kinds ≤ i → length c.bodies ≤ i → entry_at c i ≡ entry_of 0 0
at_past c i lk lb =
    rw (get_or-eq_default c.kinds 0 {n = i} lk, get_or-eq_default c.bodies 0 {n = i} lb)

-- one place more, in the arrays and past them
pub extended : (c : Channel) (k b : ℕ) → c.count < length c.kinds → c.count < length c.bodies
    → entries
    (record { bodies = set c.bodies c.count b; kinds = set c.kinds c.count k; count = c.count + 1 })
    ≡ entries c ++ (entry_of k b ∷ [])
unfolding entries
extended c k b lk lb =
    tabulate_more c.count (entry_at (written c c.count k b))
    ∙ rw (
      at_written c c.count k b lk lb,
      tabulate_cong c.count (entry_at (written c c.count k b)) (entry_at c)
          (λ i l. at_other c c.count i k b (λ e. omega arith)),
    )

pub extended_past : (c : Channel) → length c.kinds ≤ c.count → length c.bodies ≤ c.count
    → entries (record { bodies = c.bodies; kinds = c.kinds; count = c.count + 1 }) ≡ entries c ++ (entry_of 0 0 ∷ [])
unfolding entries
extended_past c lk lb = tabulate_more c.count (entry_at c) ∙ rw (at_past c c.count lk lb)

-- the first entry, and those after it
module _ (c : Channel) (full : 0 < c.count) where
  entries_split : entries c ≡ entry_at c 0 ∷ tabulate (c.count - 1) (λ i. entry_at c (suc i))
  unfolding entries
  entries_split =
      let e : c.count ≡ suc (c.count - 1) = omega arith in
      ap (λ (n : ℕ). tabulate n (entry_at c)) e ∙ tabulate_cons (c.count - 1) (entry_at c)

  pub entries_first : entries c ≡ entry_at c 0 ∷ drop 1 (entries c)
  entries_first = rw entries_split

  pub entries_rest : (r : Channel) → r.count ≡ c.count - 1
      → ((i : ℕ) → i < c.count - 1 → entry_at r i ≡ entry_at c (i + 1)) → entries r ≡ drop 1 (entries c)
  unfolding entries
  entries_rest r e h =
      rw e (tabulate_cong (c.count - 1) (entry_at r) (λ i. entry_at c (suc i)) (λ i l. rw add-one at (h i l)))
      ∙ ap (drop 1) (sym entries_split)

-- messages alone, tagged 0: every kind is 0, and the bodies are f's values
pub entries_messages : (c : Channel) (f : ℕ → ℕ) → ((i : ℕ) → i < c.count → get_or c.kinds i 0 ≡ 0)
    → ((i : ℕ) → i < c.count → get_or c.bodies i 0 ≡ f i) → entries c ≡ messages false (tabulate c.count f)
unfolding entries entry_of
entries_messages c f k b =
    tabulate_cong c.count (entry_at c) (λ i. Message (f i) false) (λ i l. rw (k i l, b i l))
    ∙ messages_tabulate c.count f

-- the bodies of the messages in the first n places, and in one place more
abbrev pub bodies_below : ℕ → Channel → List ℕ
bodies_below n c = bodies (tabulate n (entry_at c))

pub place_more : (c : Channel) (i : ℕ) → bodies_below (i + 1) c ≡ bodies_below i c ++ bodies (entry_at c i ∷ [])
place_more c i = rw (tabulate_more i (entry_at c)) (bodies_append (tabulate i (entry_at c)) (entry_at c i ∷ []))

pub message_more : (c : Channel) (i : ℕ) {b : ℕ} {t : Bool} → Message b t ≡ entry_at c i
    → bodies_below (i + 1) c ≡ bodies_below i c ++ (b ∷ [])
unfolding bodies
message_more c i {b} {t} h = place_more c i ∙ rw (← h)

pub marker_more : (c : Channel) (i : ℕ) → Marker ≡ entry_at c i → bodies_below (i + 1) c ≡ bodies_below i c
unfolding bodies
marker_more c i h = place_more c i ∙ rw (← h) (append-nil (bodies_below i c))
