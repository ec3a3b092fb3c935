-- Checks come in document 01's order (the statement is InOrder of specs/InOrder.antt): a step's by computation, and of
-- setup and restart what comes earlier decides.
use Prim.Native.Nat.{ℕ}
use mathlib.Core.Path.{◌≡◌, refl}
use mathlib.Core.Bool.{true}
use mathlib.Core.List.{List, [], ◌∷◌}
use mathlib.Core.Option.{none, some, or_else}
use lib.ListN.{length}
use Rattle.model.specs.declared.Topology.{Topology}
use Rattle.model.specs.declared.Step.{Step}
use Rattle.model.specs.declared.Step.TheVariants.{Send, Receive, Begin, PhysicalCheckpoint, LogicalCheckpoint}
use Rattle.model.specs.declared.Step.TheVariants.{SendMarker, Commit, Abort}
use Rattle.model.specs.Topology.{size_checks, channel_checks, size_refusal, channels_refusal, topology_refusal}
use Rattle.model.specs.State.{GlobalState}
use Rattle.model.specs.Step.{prior_checks, room_checks, log_checks, own_checks, step_checks}
use Rattle.model.specs.Start.{initialize_refusal, recover_refusal}
use Rattle.model.specs.InOrder.{document_order, in_order, check_numbers, InOrder}
use Rattle.model.specs.Recover as recovery

steps_in_order : (s : GlobalState) (cells : ℕ) (x : Step)
    → in_order (check_numbers (step_checks s cells x)) document_order ≡ true
unfolding in_order check_numbers document_order step_checks own_checks prior_checks room_checks log_checks
steps_in_order s cells (Send c b) = refl
steps_in_order s cells (Receive c) = refl
steps_in_order s cells Begin = refl
steps_in_order s cells (PhysicalCheckpoint p) = refl
steps_in_order s cells (LogicalCheckpoint p) = refl
steps_in_order s cells (SendMarker c) = refl
steps_in_order s cells Commit = refl
steps_in_order s cells Abort = refl

sizes_in_order : (n m : ℕ) → check_numbers (size_checks n m) ≡ 1 ∷ 2 ∷ []
unfolding check_numbers
sizes_in_order n m = refl

channel_in_order : (T : Topology) (c : ℕ) → check_numbers (channel_checks T c) ≡ 3 ∷ 4 ∷ 5 ∷ []
unfolding check_numbers
channel_in_order T c = refl

sizes_first_lem : (T : Topology) (r : ℕ) → size_refusal T.processes T.channels ≡ some r
    → topology_refusal T ≡ some r
unfolding topology_refusal or_else
sizes_first_lem T r e = rw e refl

channels_first_lem : (T : Topology) (r : ℕ) → size_refusal T.processes T.channels ≡ none → channels_refusal T ≡ some r
    → topology_refusal T ≡ some r
unfolding topology_refusal or_else
channels_first_lem T r e c = rw (e, c) refl

topology_first_lem : (T : Topology) (cells : ℕ) (r : ℕ) → topology_refusal T ≡ some r
    → initialize_refusal T cells ≡ some r
unfolding recovery.initialize_refusal or_else
topology_first_lem T cells r e = rw e refl

initialize_first_lem : (T : Topology) (store : List ℕ) (r : ℕ) → initialize_refusal T (length store) ≡ some r
    → recover_refusal T store ≡ some r
unfolding recovery.recover_refusal or_else
initialize_first_lem T store r e = rw e refl

pub in_order_lem : InOrder
in_order_lem =
    record {
      steps = steps_in_order;
      sizes = sizes_in_order;
      channels = channel_in_order;
      sizes_first = sizes_first_lem;
      channels_first = channels_first_lem;
      topology_first = topology_first_lem;
      initialize_first = initialize_first_lem;
    }
