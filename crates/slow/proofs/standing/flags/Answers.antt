use Rattle.std.proofs.Common.{◌≡◌, ◌∙◌, ap, false, get_or, rules}
use Rattle.model.specs.History.{History}
use Rattle.model.specs.State.{view_progress}
use Rattle.account.specs.Standing.{within, state_of, state_from}
use Rattle.account.specs.Contents.{history_of, has_mark}
use Rattle.account.specs.Progress.{closed_in, marker_sent, saved_in}
use Rattle.slow.specs.Kept.{deed_at, past_of}
use Rattle.slow.specs.Seen.{has_mark_in, history_seen}
use Rattle.slow.proofs.Standings.{tabled, has_mark_in_lem}
use Rattle.slow.proofs.standing.flags.Goals as goal

pub returns : goal.returns
unfolding view_progress state_of state_from history_seen
returns c =
    let T = c.args.topology in
    let ds = past_of c.args.past in
    let n = T.processes in
    let m = T.channels in
    let b = c.args.histories in
    let seen = history_seen (deed_at c.args.past) b in
    let fed : seen ≡ history_of T ds = c.requires.fed.seen in
    λ j.
    record {
      logical = (tabled c.table-logical.result n 16 false (λ p. has_mark (seen.mark p))
          (λ i l. let t = c.table-logical.ensures.told false i l in
          let e : get_or c.table-logical.result i false ≡ has_mark_in b i = search rules in
          e ∙ has_mark_in_lem _)
          (c.table-logical.ensures.other false)
          ∙ ap (λ (h : History). within n (λ p. has_mark (h.mark p)) false) fed) j;
      saved = tabled c.table-saved.result n 16 false (λ p. saved_in T p ds)
          (λ i l. let t = c.table-saved.ensures.told false i l in search rules)
          (c.table-saved.ensures.other false) j;
      closed = tabled c.table-closed.result m 64 false (λ p. closed_in p ds)
          (λ i l. let t = c.table-closed.ensures.told false i l in search rules)
          (c.table-closed.ensures.other false) j;
      sent = tabled c.table-sent.result m 64 false (λ p. marker_sent p ds)
          (λ i l. let t = c.table-sent.ensures.told false i l in search rules)
          (c.table-sent.ensures.other false) j;
    }
