-- Recover, where the invariant holds: it is not refused, it gives what demand 3 claims, and the invariant holds after
-- it. And the invariant holds after an accepted initialize.
use Prim.Native.Nat.{ℕ, ◌<◌}
use mathlib.Core.Path.{◌≡◌, refl, sym, ap, subst, ◌∙◌}
use mathlib.Core.Bool.{true, false}
use mathlib.Core.List.{List, [], ◌++◌}
use mathlib.Core.Option.{none, or_else}
use lib.ListN.{length, take}
use lib.Seq.{take-take, length-take-le}
use borrow.Author.Tests.{le-leb, le-ltb, lt-ltb}
use native.Mathlib.Omega.{arith}
use native.Mathlib.Nat.{le_refl}
use Rattle.model.specs.declared.Topology.{Topology}
use Rattle.model.specs.Notation.{tabulate}
use Rattle.model.specs.Check.{first_refusal}
use Rattle.model.specs.Word.{replay_by}
use Rattle.model.specs.Topology.{sender, receiver, has_process, has_channel, is_late, topology_refusal}
use Rattle.model.specs.Channel.{bodies, messages, markerless}
use Rattle.model.specs.Layout.{present, store_cells, message_log, channel_log, entries_from}
use Rattle.model.specs.Layout.{restore, logged}
use Rattle.model.specs.State.{GlobalState, idle_state}
use Rattle.model.specs.Write.{write_all}
use Rattle.model.specs.Start.{Startup, startup_or, initialize, initialize_refusal, initialize_writes, stored_line}
use Rattle.model.specs.Start.{counts_fit, recover, recover_refusal, recovered_word}
use Rattle.model.specs.Start.{recovered_channel}
use Rattle.model.specs.History.{Event, History, new_history, sent, received, bodies_on, receipts_of}
use Rattle.model.specs.History.{on_recover}
use Rattle.model.specs.Demand3.{Recovered}
use Rattle.model.specs.Form as form
use Rattle.model.specs.Recover as recovery
use Rattle.model.proofs.laws.Tests.{and_both}
use Rattle.model.proofs.laws.Lists.{all_of}
use Rattle.model.proofs.laws.Calls.{initialize_refusal_lem}
use Rattle.model.proofs.laws.ChannelLaws.{bodies_messages, messages_markerless}
use Rattle.model.proofs.laws.WordLaws.{restore_nothing}
use Rattle.model.proofs.laws.HistoryLaws.{word_of}
use Rattle.model.proofs.store.Sizes.{admitted, sized_start, sized_after}
use Rattle.model.proofs.store.Slots.{Initialized, initialized}
use Rattle.model.proofs.line.Values.{slot_of, slot_by, held_of, book_of, seen_of}
use Rattle.model.proofs.line.Invariant.{Inv}

-- a history as a recover leaves it
abbrev shortened : History → ℕ → List Event
shortened h p = take (h.line p) (h.events p)

module _ (s : GlobalState) (st : List ℕ) (h : History) (good : topology_refusal s.topology ≡ none) (i : Inv s st h)
  where
    abbrev T : Topology
    T = s.topology

    abbrev k : ℕ
    k = s.round.line

    line_is : stored_line st ≡ k
    unfolding stored_line
    line_is = i.stored

    counts_fit_lem : counts_fit T st ≡ true
    unfolding recovery.counts_fit recovery.count_fits slot_of slot_by held_of
    counts_fit_lem =
        rw line_is
        (and_both _ _ (all_of T.processes _ (λ p l. le-leb _ _ (i.processes p l).fits))
        (all_of T.channels _ (λ c l. le-leb _ _ (i.channels c l).fits)))

    not_refused : recover_refusal T st ≡ none
    unfolding recovery.recover_refusal recovery.initialize_refusal or_else first_refusal
    not_refused = rw (good, le-ltb (length st) store_cells i.sized.cells, counts_fit_lem)

    abbrev recovered : GlobalState
    recovered = idle_state T k (recovered_word T st) (recovered_channel T st)

    recover_is : recover T st ≡ record { refusal = none; state = recovered; store = st }
    unfolding recovery.recover startup_or
    recover_is = rw (not_refused, line_is)

    word_is : (p : ℕ) → p < T.processes → recovered_word T st p ≡ word_of (shortened h p)
    unfolding recovery.recovered_word recovery.restored has_process slot_of slot_by book_of
    word_is p l = rw (lt-ltb p T.processes l, line_is) (i.processes p l).finished

    channel_is : (c : ℕ) → c < T.channels → recovered_channel T st c ≡ messages false (logged st k c)
    unfolding recovery.recovered_channel has_channel
    channel_is c l = rw (lt-ltb c T.channels l, line_is)

    bodies_are : (c : ℕ) → c < T.channels → bodies (recovered_channel T st c) ≡ logged st k c
    bodies_are c l = ap bodies (channel_is c l) ∙ bodies_messages false (logged st k c)

    balanced : (c : ℕ) → c < T.channels
        → bodies_on sent c (shortened h (sender T c))
        ≡ bodies_on received c (shortened h (receiver T c)) ++ bodies (recovered_channel T st c)
    unfolding seen_of book_of held_of
    balanced c l =
        (i.channels c l).finished
        ∙ ap (λ (x : List ℕ). bodies_on received c (shortened h (receiver T c)) ++ x) (sym (bodies_are c l))

    -- what demand 3 claims
    pub recovers : Recovered T (recover T st) (on_recover h) k
    unfolding on_recover idle_state word_of
    recovers =
        subst (λ (r : Startup). Recovered T r (on_recover h) k) (sym recover_is)
        (record {
          accepted = refl;
          idle = refl;
          line = refl;
          channels = balanced;
          markerless = λ c l. ap markerless (channel_is c l) ∙ messages_markerless false (logged st k c);
          words = word_is;
        })

    -- the line stays what it is in histories that are shortened to it
    shortened_again : {A : Type 0} (F : List Event → A) (p : ℕ)
        → F (take (h.line p) (shortened h p)) ≡ F (shortened h p)
    shortened_again F p = ap F (take-take (h.line p) (h.line p) (h.events p) (le_refl (h.line p)))

    pub recover_kept : Inv recovered st (on_recover h)
    unfolding on_recover idle_state book_of seen_of slot_of held_of
    recover_kept =
        record {
          sized = i.sized;
          stored = i.stored;
          tag = false;
          processes = λ p l.
              record {
                now = word_is p l;
                within = omega (arith, length-take-le (h.line p) (h.events p) (i.processes p l).within);
                finished = (i.processes p l).finished ∙ sym (shortened_again word_of p);
                fits = (i.processes p l).fits;
                round = record { tag = refl; mark = refl };
              };
          channels = λ c l.
              record {
                now = balanced c l;
                finished =
                    shortened_again (bodies_on sent c) (sender T c) ∙ (i.channels c l).finished
                    ∙ ap (λ (x : List ℕ). x ++ logged st k c)
                    (sym (shortened_again (bodies_on received c) (receiver T c)));
                fits = (i.channels c l).fits;
                round = channel_is c l ∙ ap (messages false) (sym (bodies_are c l));
              };
        }

    pub recovered_state : (recover T st).state ≡ recovered
    recovered_state = ap (λ (r : Startup). r.state) recover_is

    pub recovered_store : (recover T st).store ≡ st
    recovered_store = ap (λ (r : Startup). r.store) recover_is

module _ (T : Topology) (store : List ℕ) (accepted : (initialize T store).refusal ≡ none) where
  no_refusal : initialize_refusal T (length store) ≡ none
  no_refusal = sym (initialize_refusal_lem T store) ∙ accepted

  pub topology_accepted : topology_refusal T ≡ none
  topology_accepted = (admitted present T (length store) no_refusal).0

  abbrev after : List ℕ
  after = write_all store (initialize_writes T)

  initialize_is : initialize T store
      ≡ record { refusal = none; state = idle_state T 0 (λ p. 0) (λ c. []); store = after }
  unfolding initialize startup_or
  initialize_is = rw no_refusal

  pub initialized_topology : (initialize T store).state.topology ≡ T
  unfolding idle_state
  initialized_topology = ap (λ (r : Startup). r.state.topology) initialize_is

  pub initialized_line : (initialize T store).state.round.line ≡ 0
  unfolding idle_state
  initialized_line = ap (λ (r : Startup). r.state.round.line) initialize_is

  -- line 0, with nothing sent or received
  blank : Initialized T after
  blank = initialized T store (sized_start present T store no_refusal)

  blank_word : (p : ℕ) → p < T.processes
      → restore (is_late T p) (slot_of after 0 p).physical (slot_of after 0 p).receipts ≡ 0
  unfolding slot_of slot_by form.receipts_by form.entries_by entries_from tabulate
  blank_word p l = rw (blank.counts (message_log p) l) (restore_nothing present (is_late T p) _ ∙ blank.physical p l)

  blank_log : (c : ℕ) → c < T.channels → (held_of after 0 c).bodies ≡ []
  unfolding held_of form.logged form.bodies_by form.entries_by entries_from tabulate
  blank_log c l = rw (blank.counts (channel_log c) l)

  pub initialize_holds : Inv (initialize T store).state (initialize T store).store new_history
  unfolding idle_state new_history book_of seen_of slot_of slot_by held_of word_of receipts_of replay_by bodies_on
      bodies messages
  initialize_holds =
      subst (λ (r : Startup). Inv r.state r.store new_history) (sym initialize_is)
      (record {
        sized = sized_after (sized_start present T store no_refusal) (initialize_writes T);
        stored = blank.line;
        tag = false;
        processes = λ p l.
            record {
              now = refl;
              within = omega arith;
              finished = blank_word p l;
              fits = rw (blank.counts (message_log p) l) (omega arith);
              round = record { tag = refl; mark = refl };
            };
        channels = λ c l.
            record {
              now = refl;
              finished = sym (blank_log c l);
              fits = rw (blank.counts (channel_log c) l) (omega arith);
              round = refl;
            };
      })
