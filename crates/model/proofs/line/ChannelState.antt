-- One channel in the logical phase: its invariant over plain values, and what each transition makes of it. t is the tag
-- that all had before the round's logical checkpoints.
use Prim.Native.Nat.{ℕ}
use mathlib.Core.Path.{◌≡◌, refl, sym, ap, subst, ◌∙◌}
use mathlib.Core.Bool.{Bool, true, false, not, ◌&&◌}
use mathlib.Core.List.{List, [], ◌∷◌, ◌++◌, append_assoc, append-nil}
use native.Mathlib.Omega.{arith}
use Rattle.model.specs.declared.Entry.{Entry}
use Rattle.model.specs.declared.Entry.TheVariants.{Message, Marker}
use Rattle.model.specs.Channel.{bodies, messages}
use Rattle.model.proofs.laws.Tests.{true_is_not_false, not_itself}
use Rattle.model.proofs.laws.ChannelLaws.{messages_snoc}

-- New entries: messages with the new tag, and the marker among them if m.
pub data New (t : Bool) : Bool → List Entry → Type 0 where
  none : New t false []
  message : {m : Bool} {es : List Entry} (b : ℕ) → New t m es → New t m (Message b (not t) ∷ es)
  marker : {es : List Entry} → New t false es → New t true (Marker ∷ es)

-- Old messages (tag t, with these bodies), then new entries.
pub data Shape (t : Bool) : List ℕ → Bool → List Entry → Type 0 where
  new : {m : Bool} {es : List Entry} → New t m es → Shape t [] m es
  old : {bs : List ℕ} {m : Bool} {es : List Entry} (b : ℕ) → Shape t bs m es → Shape t (b ∷ bs) m (Message b t ∷ es)

-- only old messages
pub all_old : (t : Bool) (bs : List ℕ) → Shape t bs false (messages t bs)
unfolding messages
all_old t [] = new none
all_old t (b ∷ bs) = old b (all_old t bs)

new_message : {t m : Bool} {es : List Entry} (b : ℕ) → New t m es → New t m (es ++ (Message b (not t) ∷ []))
new_message b none = message b none
new_message b (message x n) = message x (new_message b n)
new_message b (marker n) = marker (new_message b n)

new_marker : {t : Bool} {es : List Entry} → New t false es → New t true (es ++ (Marker ∷ []))
new_marker none = marker none
new_marker (message x n) = message x (new_marker n)

-- a new message, or the marker, at the end
pub shape_message : {t m : Bool} {bs : List ℕ} {es : List Entry} (b : ℕ) → Shape t bs m es
    → Shape t bs m (es ++ (Message b (not t) ∷ []))
shape_message b (new n) = new (new_message b n)
shape_message b (old x s) = old x (shape_message b s)

pub shape_marker : {t : Bool} {bs : List ℕ} {es : List Entry} → Shape t bs false es
    → Shape t bs true (es ++ (Marker ∷ []))
shape_marker (new n) = new (new_marker n)
shape_marker (old x s) = old x (shape_marker s)

-- new messages alone
pub all_new : {t : Bool} {es : List Entry} → New t false es → es ≡ messages (not t) (bodies es)
unfolding messages bodies
all_new none = refl
all_new {t} (message x n) = ap (λ (l : List Entry). Message x (not t) ∷ l) (all_new n)

-- The invariant of one channel. a, r: sender and receiver have their logical checkpoint; s: the marker was sent; k: the
-- channel is closed; es: its entries; log: its channel log; out, in: the bodies sent and received on it before the two
-- ends' logical checkpoints.
pub record Balanced (t a r s k : Bool) (es : List Entry) (log out in' : List ℕ) : Type 0 where
  pub before : List ℕ
  pub marked : Bool
  pub shape : Shape t before marked es
  pub flag : marked ≡ (s && not k)
  pub quiet : a ≡ false → (s ≡ false) × (es ≡ messages t before)
  pub shut : k ≡ true → (before ≡ []) × (r ≡ true) × (s ≡ true)
  pub unlogged : r ≡ false → log ≡ []
  pub balance : out ≡ in' ++ (log ++ before)

-- The first entry, a message: old, or new with nothing old before it.
data First (t m : Bool) (b : ℕ) (es : List Entry) : List ℕ → Bool → Type 0 where
  first_old : {bs : List ℕ} → Shape t bs m es → First t m b es (b ∷ bs) t
  first_new : New t m es → First t m b es [] (not t)

first : {t m u : Bool} {b : ℕ} {bs : List ℕ} {es : List Entry} → Shape t bs m (Message b u ∷ es) → First t m b es bs u
first (new (message b n)) = first_new n
first (old b s) = first_old s

pub old_first : {t m u : Bool} {b : ℕ} {bs : List ℕ} {es : List Entry} → Shape t bs m (Message b u ∷ es) → u ≡ t
    → (rest : List ℕ) × (bs ≡ b ∷ rest) × Shape t rest m es
old_first {t} {m} {u} {b} {bs} {es} s e = go (first s) e
  where
    go : {bs : List ℕ} {u : Bool} → First t m b es bs u → u ≡ t → (rest : List ℕ) × (bs ≡ b ∷ rest) × Shape t rest m es
    go (first_old {bs} s) e = (bs, refl, s)
    go (first_new n) e = not_itself t e

pub new_first : {t m u : Bool} {b : ℕ} {bs : List ℕ} {es : List Entry} → Shape t bs m (Message b u ∷ es) → u ≡ not t
    → (bs ≡ []) × New t m es
new_first {t} {m} {u} {b} {bs} {es} s e = go (first s) e
  where
    go : {bs : List ℕ} {u : Bool} → First t m b es bs u → u ≡ not t → (bs ≡ []) × New t m es
    go (first_old s) e = not_itself t (sym e)
    go (first_new n) e = (refl, n)

pub marker_first : {t m : Bool} {bs : List ℕ} {es : List Entry} → Shape t bs m (Marker ∷ es)
    → (bs ≡ []) × (m ≡ true) × New t false es
marker_first (new (marker n)) = (refl, refl, n)

and_not : (s k : Bool) → true ≡ (s && not k) → (s ≡ true) × (k ≡ false)
and_not true true e = true_is_not_false (sym e) refl
and_not true false e = (refl, refl)
and_not false k e = true_is_not_false (sym e) refl

no_messages : {X : Type 0} {e : Entry} {es : List Entry} (t : Bool) (bs : List ℕ) → bs ≡ [] → e ∷ es ≡ messages t bs → X
unfolding messages
no_messages {X} {e} {es} t bs z q = let p : e ∷ es ≡ [] = q ∙ ap (messages t) z in absurd (cons_is_no_nil p)
  where
    cons_is_no_nil : e ∷ es ≡ [] → ⊥
    cons_is_no_nil p = let z : ◌≡◌ {A = ℕ} 0 1 = cc in omega arith

module _ {t a r s k : Bool} {es : List Entry} {log out in' : List ℕ} where
  -- what counts of the logical checkpoints: a sender without one, a receiver with one
  pub more_logical : (a' r' : Bool) → (a' ≡ false → a ≡ false) → (r' ≡ false → r ≡ false)
      → Balanced t a r s k es log out in' → Balanced t a' r' s k es log out in'
  more_logical a' r' fa fr l =
      record {
        before = l.before;
        marked = l.marked;
        shape = l.shape;
        flag = l.flag;
        quiet = λ e. l.quiet (fa e);
        shut = λ e. ((l.shut e).0, still r' refl (l.shut e).1, (l.shut e).2);
        unlogged = λ e. l.unlogged (fr e);
        balance = l.balance;
      }
    where
      still : (x : Bool) → r' ≡ x → r ≡ true → r' ≡ true
      still true e h = e
      still false e h = true_is_not_false h (fr e)

  -- a message sent before the sender's logical checkpoint
  pub send_old : (b : ℕ) → a ≡ false → Balanced t a r s k es log out in'
      → Balanced t a r s k (es ++ (Message b t ∷ [])) log (out ++ (b ∷ [])) in'
  send_old b e l =
      record {
        before = l.before ++ (b ∷ []);
        marked = false;
        shape =
            subst (λ (x : List Entry). Shape t (l.before ++ (b ∷ [])) false x) one_more
            (all_old t (l.before ++ (b ∷ [])));
        flag = rw (l.quiet e).0;
        quiet = λ _. ((l.quiet e).0, sym one_more);
        shut = λ h. true_is_not_false (l.shut h).2 (l.quiet e).0;
        unlogged = l.unlogged;
        balance = rw l.balance (simp append_assoc);
      }
    where
      one_more : messages t (l.before ++ (b ∷ [])) ≡ es ++ (Message b t ∷ [])
      one_more = messages_snoc t l.before b ∙ ap (λ (x : List Entry). x ++ (Message b t ∷ [])) (sym (l.quiet e).1)

  -- a message sent after it
  pub send_new : (b : ℕ) → a ≡ true → Balanced t a r s k es log out in'
      → Balanced t a r s k (es ++ (Message b (not t) ∷ [])) log out in'
  send_new b e l =
      record {
        before = l.before;
        marked = l.marked;
        shape = shape_message b l.shape;
        flag = l.flag;
        quiet = λ h. true_is_not_false e h;
        shut = l.shut;
        unlogged = l.unlogged;
        balance = l.balance;
      }

  -- the marker
  pub send_marker : a ≡ true → s ≡ false → Balanced t a r s k es log out in'
      → Balanced t a r true k (es ++ (Marker ∷ [])) log out in'
  send_marker e z l =
      record {
        before = l.before;
        marked = true;
        shape = shape_marker (subst (λ (x : Bool). Shape t l.before x es) unmarked l.shape);
        flag = still_open k refl;
        quiet = λ h. true_is_not_false e h;
        shut = λ h. true_is_not_false (l.shut h).2 z;
        unlogged = l.unlogged;
        balance = l.balance;
      }
    where
      unmarked : l.marked ≡ false
      unmarked = l.flag ∙ rw z

      still_open : (x : Bool) → k ≡ x → true ≡ not k
      still_open true h = true_is_not_false (l.shut h).2 z
      still_open false h = rw h

module _ {t a r s k : Bool} {es : List Entry} {log out in' : List ℕ} where
  -- a marker that is first was sent, and its channel isn't closed yet
  pub open_at_marker : Balanced t a r s k (Marker ∷ es) log out in' → (s ≡ true) × (k ≡ false)
  open_at_marker l = and_not s k (sym (marker_first l.shape).1 ∙ l.flag)

  -- the marker received: the channel is closed
  pub receive_marker : Balanced t a r s k (Marker ∷ es) log out in' → Balanced t a true s true es log out in'
  receive_marker l =
      let (nothing, _, rest) = marker_first l.shape in
      let open' = open_at_marker l in
      record {
        before = [];
        marked = false;
        shape = new rest;
        flag = rw open'.0;
        quiet = λ e. no_messages t l.before nothing (l.quiet e).1;
        shut = λ e. (refl, refl, open'.0);
        unlogged = λ e. true_is_not_false refl e;
        balance = l.balance ∙ rw nothing;
      }

module _ {t a r s k u : Bool} {b : ℕ} {es : List Entry} {log out in' : List ℕ}
    (l : Balanced t a r s k (Message b u ∷ es) log out in') where
  pub open_while_old : u ≡ t → k ≡ true → ⊥
  open_while_old e h =
      let (rest, is, shape) = old_first l.shape e in
      let p : b ∷ rest ≡ [] = sym is ∙ (l.shut h).0 in
      let z : ◌≡◌ {A = ℕ} 0 1 = cc in omega arith

  -- an old message: it is in the receiver's part before the logical checkpoint, or in the channel log
  receive_old : (log' in'' : List ℕ) → u ≡ t → (r ≡ false → log' ≡ [])
      → ((rest : List ℕ) → in' ++ (log ++ (b ∷ rest)) ≡ in'' ++ (log' ++ rest)) → Balanced t a r s k es log' out in''
  unfolding messages
  receive_old log' in'' e unlogged balance =
      let (rest, is, shape) = old_first l.shape e in
      record {
        before = rest;
        marked = l.marked;
        shape = shape;
        flag = l.flag;
        quiet = λ h. ((l.quiet h).0, cons_rest rest is (l.quiet h).1);
        shut = λ h. absurd (open_while_old e h);
        unlogged = unlogged;
        balance = l.balance ∙ ap (λ (x : List ℕ). in' ++ (log ++ x)) is ∙ balance rest;
      }
    where
      cons_rest : (rest : List ℕ) → l.before ≡ b ∷ rest → Message b u ∷ es ≡ messages t l.before
          → es ≡ messages t rest
      cons_rest rest is q = let p : Message b u ∷ es ≡ Message b t ∷ messages t rest = q ∙ ap (messages t) is in cc

  pub receive_old_before : u ≡ t → r ≡ false → Balanced t a r s k es log out (in' ++ (b ∷ []))
  receive_old_before e z =
      receive_old log (in' ++ (b ∷ [])) e l.unlogged
      (λ rest. rw (l.unlogged z) (sym (append_assoc in' (b ∷ []) rest)))

  pub receive_old_logged : u ≡ t → r ≡ true → Balanced t a r s k es (log ++ (b ∷ [])) out in'
  receive_old_logged e z =
      receive_old (log ++ (b ∷ [])) in' e (λ h. true_is_not_false z h)
      (λ rest. ap (λ (x : List ℕ). in' ++ x) (sym (append_assoc log (b ∷ []) rest)))

  -- a new message: the receiver has its logical checkpoint by then
  pub receive_new : u ≡ not t → Balanced t a true s k es log out in'
  receive_new e =
      let (nothing, rest) = new_first l.shape e in
      record {
        before = [];
        marked = l.marked;
        shape = new rest;
        flag = l.flag;
        quiet = λ h. no_messages t l.before nothing (l.quiet h).1;
        shut = λ h. (refl, refl, (l.shut h).2);
        unlogged = λ h. true_is_not_false refl h;
        balance = l.balance ∙ rw nothing;
      }

  -- its sender has one too
  pub new_sender : u ≡ not t → a ≡ true
  new_sender e = go a refl
    where
      go : (x : Bool) → a ≡ x → a ≡ true
      go true h = h
      go false h = no_messages t l.before (new_first l.shape e).0 (l.quiet h).1

-- The channel at commit: closed, so nothing old is left, and no marker.
pub closed_channel : {t a r s k : Bool} {es : List Entry} {log out in' : List ℕ} → k ≡ true
    → Balanced t a r s k es log out in' → (es ≡ messages (not t) (bodies es)) × (out ≡ in' ++ log)
closed_channel {t} {a} {r} {s} {k} {es} {log} {out} {in'} e l =
    (all_new (none_old l.shape (l.shut e).0 unmarked), l.balance ∙ rw ((l.shut e).0, append-nil))
  where
    unmarked : l.marked ≡ false
    unmarked = l.flag ∙ rw (e, (l.shut e).2)

    none_old : {bs : List ℕ} {m : Bool} {xs : List Entry} → Shape t bs m xs → bs ≡ [] → m ≡ false → New t false xs
    none_old {bs} {m} {xs} (new n) z f = subst (λ (x : Bool). New t x xs) f n
    none_old (old b s) z f = let q : ◌≡◌ {A = ℕ} 0 1 = cc in absurd (omega arith)
