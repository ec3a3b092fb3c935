use Rattle.std.proofs.Common.{◌≡◌, ◌∙◌, ap, ap₂, false, not, get_or, [], rules}
use Rattle.std.specs.Bool.{beq}
use Rattle.model.specs.declared.Channel.{Channel}
use Rattle.model.specs.Channel.{entries, places_of}
use Rattle.model.specs.Word.{replay}
use Rattle.model.specs.History.{History, receipts_of}
use Rattle.model.specs.State.{no_places, view}
use Rattle.account.specs.Round.{turned}
use Rattle.account.specs.Standing.{within, state_of, state_from}
use Rattle.account.specs.Contents.{history_of, has_mark, turned_by, channel_by}
use Rattle.slow.specs.Kept.{deed_at, past_of}
use Rattle.slow.specs.Seen.{has_mark_in, history_seen}
use Rattle.slow.proofs.Standings.{tabled, holding, has_mark_in_lem, tag_is}
use Rattle.slow.proofs.standing.of.Goals as goal

-- what an index past the array would read
abbrev unread : Channel
unread = record { bodies = []; kinds = []; count = 0 }

pub returns : goal.returns
unfolding view state_of state_from history_seen
returns c =
    let T = c.args.topology in
    let ds = past_of c.args.past in
    let n = T.processes in
    let m = T.channels in
    let b = c.feed-histories.result in
    let seen = history_seen (deed_at c.args.past) b in
    let fed : seen ≡ history_of T ds = c.feed-histories.ensures.seen in
    λ j.
    record {
      topology = T;
      round = record { line = c.line.ensures j; phase = c.phase.ensures j };
      word = (tabled c.table-words.result n 16 0 (λ p. replay 0 (receipts_of (seen.events p)))
          (λ i l. let t = c.table-words.ensures.told 0 i l in search rules)
          (c.table-words.ensures.other 0)
          ∙ ap (λ (h : History). within n (λ p. replay 0 (receipts_of (h.events p))) 0) fed) j;
      tag = (tabled c.table-tags.result n 16 false (λ p. turned_by (turned ds) (has_mark (seen.mark p)))
          (λ i l. let t = c.table-tags.ensures.told false i l in
          let e : get_or c.table-tags.result i false
          ≡ not (beq c.turned-turned.result (has_mark_in b i)) = search rules in
          e ∙ tag_is _ _ ∙ ap₂ turned_by c.turned-turned.ensures (has_mark_in_lem _))
          (c.table-tags.ensures.other false)
          ∙ ap (λ (h : History). within n (λ p. turned_by (turned ds) (has_mark (h.mark p))) false) fed) j;
      channel = holding c.table-places.result c.table-lengths.result m (channel_by T ds (history_of T ds))
          (λ i l. let p = c.table-places.ensures.told no_places i l in
          let q = c.table-lengths.ensures.told 0 i l in
          let h = c.table-held.ensures.told unread i l in
          let x : Channel = get_or c.table-held.result i unread in
          let places : get_or c.table-places.result i no_places ≡ places_of x = search rules in
          let lengths : get_or c.table-lengths.result i 0 ≡ x.count = search rules in
          let told : entries x ≡ channel_by T ds (history_of T ds) i = search rules in
          rw (places, lengths) told)
          (c.table-lengths.ensures.other 0) j;
      progress = c.flags-flags.ensures j;
      counts = c.counts.ensures j;
    }
