-- A process has a mark in its history just where it has its logical checkpoint; and outside the logical phase what the
-- past tells of a channel is what it holds: messages alone, with the tag that all have.
use Prim.Native.Nat.{ℕ, zero, suc, ◌<◌}
use mathlib.Core.Path.{◌≡◌, refl, sym, ap, ap₂, subst, ◌∙◌}
use mathlib.Core.Bool.{Bool, false}
use mathlib.Core.List.{List, [], ◌∷◌}
use mathlib.Core.Option.{Option, none}
use lib.ListN.{length, drop}
use lib.Seq.{drop-append_seam}
use borrow.Author.Tests.{le-leb}
use Rattle.model.specs.declared.Topology.{Topology}
use Rattle.model.specs.declared.Phase.{Phase}
use Rattle.model.specs.declared.Phase.TheVariants.{Idle, Physical, Logical}
use Rattle.model.specs.declared.Entry.{Entry}
use Rattle.model.specs.Topology.{sender, receiver, topology_refusal}
use Rattle.model.specs.Channel.{bodies, messages}
use Rattle.model.specs.Phase.{is_logical}
use Rattle.model.specs.State.{GlobalState, Progress, no_progress}
use Rattle.model.specs.History.{History, sent, received, bodies_on, is_after}
use Rattle.model.proofs.laws.Tests.{true_is_not_false}
use Rattle.model.proofs.laws.TopologyLaws.{sender_planned}
use Rattle.model.proofs.laws.HistoryLaws.{Marked, unmarked, marked}
use Rattle.model.proofs.line.Values.{book_of, seen_of}
use Rattle.model.proofs.line.Invariant.{Inv}
use Rattle.model.proofs.line.Phases.{process_in, channel_in}
use Rattle.account.specs.Deeds.{Past}
use Rattle.account.specs.Round.{turned}
use Rattle.account.specs.Progress.{marker_sent}
use Rattle.account.specs.Contents.{has_mark, turned_by, under_way, channel_by}
use Rattle.account.proofs.Told.{Told}
use Rattle.account.proofs.Sends.{sends_plain}

-- the planned channels are as the past tells, by the histories h
abbrev pub Stands : Topology → (ℕ → List Entry) → Past → History → Type 0
Stands T channel past h = (c : ℕ) → c < T.channels → channel c ≡ channel_by T past h c

drop_messages : (t : Bool) (n : ℕ) (bs : List ℕ) → drop n (messages t bs) ≡ messages t (drop n bs)
unfolding messages
drop_messages t zero bs = refl
drop_messages t (suc n) [] = refl
drop_messages t (suc n) (b ∷ bs) = drop_messages t n bs

-- the end of a history stands after its mark, where it has one
pub end_after : {n : ℕ} {x : Bool} {m : Option ℕ} → Marked n x m → is_after m n ≡ x
unfolding is_after
end_after unmarked = refl
end_after (marked {m} l) = le-leb m _ l

pub has_mark_lem : {n : ℕ} {x : Bool} {m : Option ℕ} → Marked n x m → has_mark m ≡ x
unfolding has_mark
has_mark_lem unmarked = refl
has_mark_lem (marked {m} l) = refl

module _ (s : GlobalState) (st : List ℕ) (h : History) (inv : Inv s st h) (past : Past) (i : Told s.topology s past)
  where
    abbrev T : Topology
    T = s.topology

    pub mark_of : (p : ℕ) → p < T.processes → Marked (length (h.events p)) (s.progress.logical p) (h.mark p)
    unfolding book_of no_progress
    mark_of p l = go s.round.phase refl
      where
        none_yet : is_logical s.round.phase ≡ false → h.mark p ≡ none
            → Marked (length (h.events p)) (s.progress.logical p) (h.mark p)
        none_yet out e = rw (e, i.quiet out) unmarked

        go : (ph : Phase) → s.round.phase ≡ ph → Marked (length (h.events p)) (s.progress.logical p) (h.mark p)
        go Idle e = none_yet (rw e) (process_in inv e p l).round.mark
        go (Physical next) e = none_yet (rw e) (process_in inv e p l).round.plain.mark
        go Logical e = (process_in inv e p l).round.mark

    pub plain_stands : topology_refusal T ≡ none → is_logical s.round.phase ≡ false → Stands T s.channel past h
    unfolding channel_by under_way book_of seen_of turned_by no_progress
    plain_stands good out c l = go s.round.phase refl
      where
        p : ℕ
        p = sender T c

        lp : p < T.processes
        lp = sender_planned T good c l

        arrived : List ℕ
        arrived = bodies_on received c (h.events (receiver T c))

        unsent : marker_sent c past ≡ false
        unsent = ap (λ (f : ℕ → Bool). f c) (sym i.sent) ∙ ap (λ (f : Progress). f.sent c) (i.quiet out)

        tag_is : s.tag p ≡ turned past
        tag_is = i.tag p lp ∙ ap (λ (f : Progress). turned_by (turned past) (f.logical p)) (i.quiet out)

        stands : inv.tag ≡ s.tag p → h.mark p ≡ none → s.channel c ≡ messages inv.tag (bodies (s.channel c))
            → s.channel c ≡ channel_by T past h c
        stands same_tag free plain =
            plain
            ∙ ap₂ messages (same_tag ∙ tag_is)
            (sym (drop-append_seam arrived (bodies (s.channel c)))
            ∙ ap (drop (length arrived)) (sym (inv.channels c l).now))
            ∙ sym (drop_messages (turned past) (length arrived) (bodies_on sent c (h.events p)))
            ∙ ap (drop (length arrived)) (sym (sends_plain (turned past) c 0 (h.events p)))
            ∙ rw (free, unsent)

        go : (ph : Phase) → s.round.phase ≡ ph → s.channel c ≡ channel_by T past h c
        go Idle e =
            stands (sym (process_in inv e p lp).round.tag) (process_in inv e p lp).round.mark
            (channel_in inv e c l).round
        go (Physical next) e =
            stands (sym (process_in inv e p lp).round.plain.tag) (process_in inv e p lp).round.plain.mark
            (channel_in inv e c l).round.plain
        go Logical e = true_is_not_false (rw e) out

-- and where the topology is known by an equation
pub plain_in : (T : Topology) (s : GlobalState) (st : List ℕ) (h : History) → Inv s st h → (past : Past)
    → s.topology ≡ T → Told T s past → topology_refusal T ≡ none → is_logical s.round.phase ≡ false
    → Stands T s.channel past h
plain_in T s st h inv past e told good out =
    subst (λ (X : Topology). Told X s past → topology_refusal X ≡ none → Stands X s.channel past h) e
    (λ i g. plain_stands s st h inv past i g out) told good
