-- A handle of a server goes from thread to thread, as its server does.
use denote.Param.Send.{IsSend}
use Rattle.std.proofs.alloc.Global.TheSendSync as heap
use Rattle.nizwarf_tree.specs.contracts.instance.Instance as Instance
use Rattle.nizwarf_tree.proofs.instance.Instance.TheSendSync.{the_send}
use Rattle.nizwarf_tree.specs.contracts.handle.Handle.{the_row}
use Rattle.nizwarf_tree.proofs.Crosses.{held_keyless}

pub send : IsSend the_row
send = record {
  owned = λ h vs. (
    (λ vss. (tt, (tt, (heap.the_field_send.owned _ vss.1.0, tt)))),
    held_keyless Instance.the_row the_send h.alloc h.at h.value,
  );
  leaving = λ k d w. tt;
}
