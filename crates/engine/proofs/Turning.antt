-- How a step's turn meets its promise, by what the model's checks and effect are for every state seen so at the spot;
-- and the state with a turn written back.
use Rattle.std.proofs.Common.{◌≡◌, ℕ, ◌+◌, ◌^◌, ◌<◌, ◌≤◌, Bool, true, false, cond, List, length, take, refl, ap}
use Rattle.std.proofs.Common.{◌∙◌, Result, Ok, Err, IsErrAnd, arith, le-ltb, lt-ltb}
use mathlib.Core.Option.{none, some}
use borrow.Author.Tests.{eqb-false, not-true}
use native.Mathlib.Nat.{min-eq_left, min-eq_right}
use Rattle.model.specs.declared.Topology.{Topology}
use Rattle.model.specs.declared.Step.{Step}
use Rattle.model.specs.declared.Refusal.{Refusal}
use Rattle.model.specs.Notation.{upd}
use Rattle.model.specs.Check.{first_refusal}
use Rattle.model.specs.Channel.{entries}
use Rattle.model.specs.Topology.{sender, receiver, has_process, has_channel}
use Rattle.model.specs.Phase.{is_idle}
use Rattle.model.specs.State.{GlobalState, Progress, LogCounts, no_counts}
use Rattle.model.specs.Sound.{last_line, line_sound}
use Rattle.model.specs.Change.{with_counts}
use Rattle.model.specs.Write.{Write, under_budget, write_all}
use Rattle.model.specs.Write as writes
use Rattle.model.specs.Step.{own_checks, result_of, physical_from, effect, quietly}
use Rattle.model.specs.Outcome.{refusal_number, said_by}
use Rattle.model.specs.Heard.{accepted}
use Rattle.model.specs.Outcome as says
use Rattle.model.proofs.laws.Functions.{upd_unchanged}
use Rattle.model.proofs.laws.SoundLaws.{sound_facts}
use Rattle.model.proofs.laws.TopologyLaws.{SizesFit, accepted_sizes}
use Rattle.engine.specs.declared.spot.Subject.{Subject}
use Rattle.engine.specs.declared.spot.Spot.{Spot}
use Rattle.engine.specs.declared.spot.Turn.{Turn}
use Rattle.engine.specs.declared.spot.Stop.{Stop}
use Rattle.engine.specs.declared.spot.Stop.TheVariants as stop
use Rattle.engine.specs.Answers.{own_result}
use Rattle.engine.specs.Spots.{at, no_such, sending, receiving, on_process, Sees, Seen, about, put_back, after_turn}
use Rattle.engine.specs.Spots.{outcome_of, made_of, Turns, may_stop, QuietTurn, GoesFrom}
use Rattle.engine.proofs.Promises.{unbudgeted}

-- what `?` answers
pub given_up : {given : Stop} (x : Result Turn Stop) → IsErrAnd x (λ e. e ≡ given) → x ≡ Err given
given_up (Ok t) h = absurd h
given_up (Err e) h = ap Err h

-- a subject that was found
pub record Found (t : Bool) (a b c p : ℕ) : Type 0 where
  pub holds : t ≡ true
  pub channel : a ≡ c
  pub process : b ≡ p

pub found : (t : Bool) (a b c p : ℕ) → cond t (at a b) no_such ≡ at c p → Found t a b c p
found true a b c p e =
    let q : ◌≡◌ {A = Subject} (record { channel = a; process = b }) (record { channel = c; process = p }) = cc in
    record { holds = refl; channel = ap (λ (l : Subject). l.channel) q; process = ap (λ (l : Subject). l.process) q }
found false a b c p e = let z : ◌≡◌ {A = ℕ} 0 1 = cc in absurd (omega arith)

module _ (T : Topology) (n : ℕ) {c p : ℕ} where
  pub found_sending : sending T n ≡ at c p → Found (has_channel T n) n (sender T n) c p
  found_sending e = found (has_channel T n) n (sender T n) c p e

  pub found_receiving : receiving T n ≡ at c p → Found (has_channel T n) n (receiver T n) c p
  found_receiving e = found (has_channel T n) n (receiver T n) c p e

  pub found_process : on_process T n ≡ at c p → Found (has_process T n) 0 n c p
  found_process e = found (has_process T n) 0 n c p e

-- what is written back as it was
pub unchanged : {A : Type 0} (f : ℕ → A) (i : ℕ) (x : A) → f i ≡ x → upd f i x ≡ f
unchanged f i x e = rw (← e) (upd_unchanged f i)

module _ (s : Spot) (x : Step) where
  own_refused : (g : GlobalState) (n : ℕ) → first_refusal (own_checks g x) ≡ some n
      → own_result g x ≡ quietly (says.refused n) g
  unfolding own_result result_of
  own_refused g n e = rw e

  own_done : (g : GlobalState) → first_refusal (own_checks g x) ≡ none → own_result g x ≡ effect g x
  unfolding own_result result_of
  own_done g e = rw e

  -- turned down, of every state seen so; and passed
  abbrev pub Refuses : Refusal → Type 0
  Refuses r = (g : GlobalState) → Sees g x s → first_refusal (own_checks g x) ≡ some (refusal_number r)

  abbrev pub Passes : Type 0
  Passes = (g : GlobalState) → Sees g x s → first_refusal (own_checks g x) ≡ none

  pub quiet_refused : (r : Refusal) → Refuses r → QuietTurn s x (Err r)
  quiet_refused r h = record { result = λ g v. own_refused g (refusal_number r) (h g v); made = refl; went = refl }

  pub quiet_went : (t : Turn) → t.made ≡ 0 → accepted (said_by t.outcome) ≡ true → Passes
      → ((g : GlobalState) → Sees g x s → effect g x ≡ quietly (said_by t.outcome) (put_back (about s) t g))
      → QuietTurn s x (Ok t)
  quiet_went t m a h f = record { result = λ g v. own_done g (h g v) ∙ f g v; made = m; went = a }

  module _ (before : List ℕ) (budget : ℕ) where
    quiet_turn : (r : Result Turn Refusal) → QuietTurn s x r → (g : GlobalState) → Sees g x s
        → under_budget budget g before (own_result g x)
        ≡ record {
          outcome = said_by (outcome_of (may_stop r));
          made = made_of budget (may_stop r);
          state = after_turn s (may_stop r) g;
          store = before;
        }
    unfolding quietly
    quiet_turn (Ok t) q g v = rw (q.result g v, q.made) (unbudgeted budget g before _ refl)
    quiet_turn (Err r) q g v = rw (q.result g v) (unbudgeted budget g before _ refl)

    pub quiet_turns : (r : Result Turn Refusal) → QuietTurn s x r → Turns s x before budget (may_stop r) before
    quiet_turns (Ok t) q = record { answered = quiet_turn (Ok t) q; went = q.went }
    quiet_turns (Err r) q = record { answered = quiet_turn (Err r) q; went = q.went }

    -- what `turn` hands on of such a step, which is this one
    pub quiet_done : {y : Step} {t : Turn} → x ≡ y → QuietTurn s y (Ok t) → Turns s x before budget (Ok t) before
    quiet_done {t = t} e q = quiet_turns (Ok t) (rw e q)

    pub quiet_stops : {y : Step} {r : Refusal} (t : Result Turn Stop) → IsErrAnd t (λ e. e ≡ stop.Refused r) → x ≡ y
        → QuietTurn s y (Err r) → Turns s x before budget t before
    quiet_stops {r = r} t given e q = rw (given_up t given) (quiet_turns (Err r) (rw e q))

    pub turns_refused : (r : Refusal) → Refuses r → Turns s x before budget (Err (stop.Refused r)) before
    turns_refused r h = quiet_turns (Err r) (quiet_refused r h)

    -- past the checks, with these writes needed
    module _ (h : Passes) (ws : List Write) (after : List ℕ) (written : after ≡ write_all before (take budget ws)) where
      pub turns_lost : ((g : GlobalState) → Sees g x s → (effect g x).writes ≡ ws) → budget < length ws
          → Turns s x before budget (Err stop.PowerLost) after
      unfolding under_budget
      turns_lost f l =
          record {
            answered =
                λ g v. rw (own_done g (h g v), f g v, lt-ltb budget (length ws) l, min-eq_left (le_of l), written);
            went = refl;
          }
        where
          le_of : budget < length ws → budget ≤ length ws
          le_of k = omega arith

      pub turns_done : (t : Turn) → t.made ≡ length ws → accepted (said_by t.outcome) ≡ true → length ws ≤ budget
          → ((g : GlobalState) → Sees g x s
          → effect g x ≡ record { outcome = said_by t.outcome; state = put_back (about s) t g; writes = ws })
          → Turns s x before budget (Ok t) after
      unfolding under_budget
      turns_done t m a l f =
          record {
            answered =
                λ g v. rw (
                  own_done g (h g v),
                  f g v,
                  le-ltb budget (length ws) l,
                  min-eq_right l,
                  written,
                  m,
                );
            went = a;
          }

      -- one that lets the physical checkpoints go on
      pub turns_from : {from m : ℕ} {counts : Bool} {t : Turn} → GoesFrom s from counts m t → m ≡ length ws
          → length ws ≤ budget
          → ((g : GlobalState) → Sees g x s → effect g x
          ≡ record {
            outcome = says.done;
            state = physical_from from (with_counts (cond counts no_counts g.counts) g);
            writes = ws;
          })
          → Turns s x before budget (Ok t) after
      turns_from {t = t} on m l f =
          turns_done t (on.made ∙ m) (rw on.outcome) l
          (λ g v. f g v ∙ rw (on.state x g v, on.outcome))

-- What a turn leaves as it was is written back as it was.
module _ {g : GlobalState} {x : Step} {s : Spot} (v : Sees g x s) where
  pub same_word : upd g.word s.process s.word ≡ g.word
  same_word = unchanged _ _ _ v.word

  pub same_tag : upd g.tag s.process s.tag ≡ g.tag
  same_tag = unchanged _ _ _ v.tag

  pub same_channel : upd g.channel s.channel (entries s.held) ≡ g.channel
  same_channel = unchanged _ _ _ v.held

  pub same_logical : upd g.progress.logical s.process s.logical ≡ g.progress.logical
  same_logical = unchanged _ _ _ v.logical

  pub same_saved : upd g.progress.saved s.process s.saved ≡ g.progress.saved
  same_saved = unchanged _ _ _ v.saved

  pub same_closed : upd g.progress.closed s.channel s.closed ≡ g.progress.closed
  same_closed = unchanged _ _ _ v.closed

  pub same_sent : upd g.progress.sent s.channel s.sent ≡ g.progress.sent
  same_sent = unchanged _ _ _ v.sent

  pub same_progress : record {
    logical = upd g.progress.logical s.process s.logical;
    saved = upd g.progress.saved s.process s.saved;
    closed = upd g.progress.closed s.channel s.closed;
    sent = upd g.progress.sent s.channel s.sent;
  }
      ≡ g.progress
  same_progress =
      λ i. record { logical = same_logical i; saved = same_saved i; closed = same_closed i; sent = same_sent i }

  pub same_counts : record {
    messages = upd g.counts.messages s.process s.in_messages;
    channels = upd g.counts.channels s.channel s.in_channel;
  }
      ≡ g.counts
  same_counts =
      λ i. record {
        messages = unchanged g.counts.messages s.process s.in_messages v.in_messages i;
        channels = unchanged g.counts.channels s.channel s.in_channel v.in_channel i;
      }

-- a round's progress and the logs' counts, part by part
pub same_flags : {a b : Progress} → a.logical ≡ b.logical → a.saved ≡ b.saved → a.closed ≡ b.closed
    → a.sent ≡ b.sent → a ≡ b
same_flags l v c t = λ i. record { logical = l i; saved = v i; closed = c i; sent = t i }

pub both_counts : {a b : LogCounts} → a.messages ≡ b.messages → a.channels ≡ b.channels → a ≡ b
both_counts m c = λ i. record { messages = m i; channels = c i }

-- a round under way is for a line that has a number
pub next_line_lem : {x : Step} {s : Spot} → Seen x s → is_idle s.round.phase ≡ false → s.round.line < 2 ^ 32
    → s.round.line + 1 < 2 ^ 32
unfolding line_sound
next_line_lem {s = s} seen busy l =
    let facts = sound_facts seen.state seen.sound in
    let fits : line_sound s.round ≡ true = rw (← seen.sees.round) facts.line in
    omega (arith, eqb-false s.round.line last_line (not-true _ (rw busy at fits)))

-- two results that agree in every part
pub same_result : {a b : writes.Result} → a.outcome ≡ b.outcome → a.state ≡ b.state → a.writes ≡ b.writes → a ≡ b
same_result o s w = λ i. record { outcome = o i; state = s i; writes = w i }

-- the sizes of a sound state's topology, as the spot has them
pub seen_sizes : {x : Step} {s : Spot} → Seen x s → SizesFit s.processes s.channels
seen_sizes {s = s} seen =
    rw (← seen.sees.processes, ← seen.sees.channels)
    (accepted_sizes seen.state.topology (sound_facts seen.state seen.sound).topology)
