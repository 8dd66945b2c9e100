-- The notifications.
use Rattle.std.specs.Int.{w64, cast_unsigned, cast_signed}
use Rattle.std.specs.Prelude.{ℕ, List, slice_index, [], ◌∷◌}
use Rattle.vfs_wire.specs.Fields.{Table, table}
use Rattle.vfs_wire_more.specs.declared.notifications.NotifyDeleteOut.{NotifyDeleteOut}
use Rattle.vfs_wire_more.specs.declared.notifications.NotifyInvalEntryOut.{NotifyInvalEntryOut}
use Rattle.vfs_wire_more.specs.declared.notifications.NotifyInvalInodeOut.{NotifyInvalInodeOut}
use Rattle.vfs_wire_more.specs.declared.notifications.NotifyPollWakeupOut.{NotifyPollWakeupOut}
use Rattle.vfs_wire_more.specs.declared.notifications.NotifyRetrieveIn.{NotifyRetrieveIn}
use Rattle.vfs_wire_more.specs.declared.notifications.NotifyPruneOut.{NotifyPruneOut}
use Rattle.vfs_wire_more.specs.declared.notifications.NotifyStoreOut.{NotifyStoreOut}
use Rattle.vfs_wire_more.specs.declared.notifications.Notify_Retrieve_Out.{Notify_Retrieve_Out}

-- the NotifyPollWakeupOut of its fields
abbrev pub made_notify_poll_wakeup_out : List ℕ → NotifyPollWakeupOut
made_notify_poll_wakeup_out xs = record {
  kh = slice_index xs 0;
}

-- NotifyPollWakeupOut: 8 bytes
abbrev pub notify_poll_wakeup_out : Table NotifyPollWakeupOut
notify_poll_wakeup_out = table (8 ∷ []) (λ r. r.kh ∷ []) made_notify_poll_wakeup_out

-- the NotifyInvalInodeOut of its fields
abbrev pub made_notify_inval_inode_out : List ℕ → NotifyInvalInodeOut
made_notify_inval_inode_out xs = record {
  ino = slice_index xs 0;
  off = cast_signed w64 (slice_index xs 1);
  len = cast_signed w64 (slice_index xs 2);
}

-- NotifyInvalInodeOut: 24 bytes
abbrev pub notify_inval_inode_out : Table NotifyInvalInodeOut
notify_inval_inode_out = table (8 ∷ 8 ∷ 8 ∷ [])
    (λ r. r.ino ∷ cast_unsigned w64 r.off ∷ cast_unsigned w64 r.len ∷ [])
    made_notify_inval_inode_out

-- the NotifyInvalEntryOut of its fields
abbrev pub made_notify_inval_entry_out : List ℕ → NotifyInvalEntryOut
made_notify_inval_entry_out xs = record {
  parent = slice_index xs 0;
  namelen = slice_index xs 1;
  flags = slice_index xs 2;
}

-- NotifyInvalEntryOut: 16 bytes
abbrev pub notify_inval_entry_out : Table NotifyInvalEntryOut
notify_inval_entry_out = table (8 ∷ 4 ∷ 4 ∷ [])
    (λ r. r.parent ∷ r.namelen ∷ r.flags ∷ []) made_notify_inval_entry_out

-- the NotifyDeleteOut of its fields
abbrev pub made_notify_delete_out : List ℕ → NotifyDeleteOut
made_notify_delete_out xs = record {
  parent = slice_index xs 0;
  child = slice_index xs 1;
  namelen = slice_index xs 2;
  padding = slice_index xs 3;
}

-- NotifyDeleteOut: 24 bytes
abbrev pub notify_delete_out : Table NotifyDeleteOut
notify_delete_out = table (8 ∷ 8 ∷ 4 ∷ 4 ∷ [])
    (λ r. r.parent ∷ r.child ∷ r.namelen ∷ r.padding ∷ []) made_notify_delete_out

-- the NotifyStoreOut of its fields
abbrev pub made_notify_store_out : List ℕ → NotifyStoreOut
made_notify_store_out xs = record {
  nodeid = slice_index xs 0;
  offset = slice_index xs 1;
  size = slice_index xs 2;
  padding = slice_index xs 3;
}

-- NotifyStoreOut: 24 bytes
abbrev pub notify_store_out : Table NotifyStoreOut
notify_store_out = table (8 ∷ 8 ∷ 4 ∷ 4 ∷ [])
    (λ r. r.nodeid ∷ r.offset ∷ r.size ∷ r.padding ∷ []) made_notify_store_out

-- the Notify_Retrieve_Out of its fields
abbrev pub made_notify_retrieve_out : List ℕ → Notify_Retrieve_Out
made_notify_retrieve_out xs = record {
  notify_unique = slice_index xs 0;
  nodeid = slice_index xs 1;
  offset = slice_index xs 2;
  size = slice_index xs 3;
  padding = slice_index xs 4;
}

-- Notify_Retrieve_Out: 32 bytes
abbrev pub notify_retrieve_out : Table Notify_Retrieve_Out
notify_retrieve_out = table (8 ∷ 8 ∷ 8 ∷ 4 ∷ 4 ∷ [])
    (λ r. r.notify_unique ∷ r.nodeid ∷ r.offset ∷ r.size ∷ r.padding ∷ []) made_notify_retrieve_out

-- the NotifyRetrieveIn of its fields
abbrev pub made_notify_retrieve_in : List ℕ → NotifyRetrieveIn
made_notify_retrieve_in xs = record {
  dummy1 = slice_index xs 0;
  offset = slice_index xs 1;
  size = slice_index xs 2;
  dummy2 = slice_index xs 3;
  dummy3 = slice_index xs 4;
  dummy4 = slice_index xs 5;
}

-- NotifyRetrieveIn: 40 bytes
abbrev pub notify_retrieve_in : Table NotifyRetrieveIn
notify_retrieve_in = table (8 ∷ 8 ∷ 4 ∷ 4 ∷ 8 ∷ 8 ∷ [])
    (λ r. r.dummy1 ∷ r.offset ∷ r.size ∷ r.dummy2 ∷ r.dummy3 ∷ r.dummy4 ∷ [])
    made_notify_retrieve_in

-- the NotifyPruneOut of its fields
abbrev pub made_notify_prune_out : List ℕ → NotifyPruneOut
made_notify_prune_out xs = record {
  count = slice_index xs 0;
  padding = slice_index xs 1;
  spare = slice_index xs 2;
}

-- NotifyPruneOut: 16 bytes
abbrev pub notify_prune_out : Table NotifyPruneOut
notify_prune_out = table (4 ∷ 4 ∷ 8 ∷ []) (λ r. r.count ∷ r.padding ∷ r.spare ∷ []) made_notify_prune_out
