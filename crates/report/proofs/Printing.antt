-- Laws of texts printed one after the other, and of a buffer that holds the whole of a text.
use Prim.Native.Nat.{ℕ, ◌+◌, ◌*◌, ◌≤◌, ◌<◌}
use mathlib.Core.Path.{◌≡◌, ◌∙◌}
use mathlib.Core.List.{List}
use lib.ListN.{length, take, length-take}
use lib.Seq.{take-length, take-paste, drop-paste}
use native.Mathlib.Nat.{add-mul, mul-le-mul_right}
use native.Mathlib.Omega.{arith}
use Rattle.model.specs.Notation.{concat_below}
use Rattle.model.proofs.laws.Lists.{concat_more}
use Rattle.report.specs.Appends.{fitting, Appends, WholeText}
use Rattle.report.proofs.Appending.{nothing, ◌then◌, appended_length, at_most}

-- the texts that f makes, one after the other, of at most so many bytes each: none, and one more
module _ (most : ℕ) (f : ℕ → List ℕ) {b : List ℕ} {at : ℕ} where
  pub none_of : Appends (0 * most) b at (concat_below 0 f) b at
  unfolding concat_below
  none_of = at_most (nothing b at) (omega arith)

  pub one_more : (i : ℕ) {m a : List ℕ} {r s : ℕ} → Appends (i * most) b at (concat_below i f) m r
      → Appends most m r (f i) a s → Appends ((i + 1) * most) b at (concat_below (i + 1) f) a s
  one_more i p q = rw (concat_more i f) (at_most (p then q) (rw (add-mul i 1 most) (omega arith)))

-- the first i of the n texts that f makes are appended, of at most so many bytes each: none, one more, all
pub record Appended (most n : ℕ) (f : ℕ → List ℕ) (b : List ℕ) (at i : ℕ) (a : List ℕ) (r : ℕ) : Type 0 where
  pub within : i ≤ n
  pub text : Appends (i * most) b at (concat_below i f) a r

module _ {most n : ℕ} {f : ℕ → List ℕ} {b : List ℕ} {at : ℕ} where
  pub none_appended : Appended most n f b at 0 b at
  none_appended = record { within = omega arith; text = none_of most f }

  module _ {i : ℕ} {m : List ℕ} {r : ℕ} (p : Appended most n f b at i m r) where
    pub one_appended : {a : List ℕ} {s : ℕ} → i < n → Appends most m r (f i) a s
        → Appended most n f b at (i + 1) a s
    one_appended l q = record { within = omega arith; text = one_more most f i p.text q }

    pub all_appended : n ≤ i → Appends (n * most) b at (concat_below n f) m r
    all_appended l = let e : n ≡ i = omega (arith, p.within) in rw e p.text

    pub all_within : {k : ℕ} → n ≤ i → n ≤ k → Appends (k * most) b at (concat_below n f) m r
    all_within l h = at_most (all_appended l) (mul-le-mul_right most h)

    pub kept_length : length m ≡ length b
    kept_length = appended_length p.text

-- where as many bytes fit as the text has at most, it is whole
pub whole_text : {most : ℕ} {b a text : List ℕ} {r : ℕ} → Appends most b 0 text a r → most ≤ length b
    → WholeText text b a r
unfolding fitting
whole_text {b = b} {text = text} p l =
    let all : fitting b 0 text ≡ length text = omega (arith, p.short) in
    record {
      count = omega (arith, p.next);
      text =
          rw (p.next, p.buffer, all)
          (take-paste b 0 text (length text) (omega arith) (omega arith) ∙ take-length text);
      rest = rw (p.next, p.buffer, all) (drop-paste b 0 text (length text) (omega arith) (omega arith));
    }

-- the whole text is a part of the buffer
pub record Part (a : List ℕ) (r : ℕ) : Type 0 where
  pub within : r ≤ length a
  pub count : r ≡ length (take r a)

pub written_part : {b a text : List ℕ} {r : ℕ} → WholeText text b a r → Part a r
written_part {a = a} {r = r} p =
    let count : r ≡ length (take r a) = p.count ∙ rw p.text in
    record { within = omega (arith, length-take r a); count = count }
