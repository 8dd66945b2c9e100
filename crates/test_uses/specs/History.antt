-- What a small caller of a server of files in memory finds: the reply to a LOOKUP of a file, and the
-- history of that and of a FORGET.
use Rattle.std.specs.Prelude.{◌≡◌, ◌≢◌, ℕ, List, [], ◌∷◌, ◌++◌, replicate}
use Rattle.vfs_files.specs.Listing.{GivesFirst}
use Rattle.vfs_grammar.specs.Books.{answered, sent, delivered, accepted, KeepsBooks}
use Rattle.vfs_grammar.specs.Words.{NeverBelow}
use Rattle.vfs_grammar.specs.Samples.{four, eight}
use Rattle.vfs_grammar.specs.Turn.{Turn, events_in}
use Rattle.vfs_server.specs.Step.{ServerState}
use Rattle.laws_history.specs.History.{Handled, IsHistory}
use Rattle.fs_small.specs.MemFs.{Stock, MemFsAllows}

-- request 9, FORGET of node 2 by 1: a header and a record, of 48 bytes
abbrev pub forget_of_2 : List ℕ
forget_of_2 = four 48 ++ (four 2 ++ (eight 9 ++ (eight 2 ++ (replicate 16 0 ++ eight 1))))

-- The reply to request 9 that says the entry of a file of five bytes, node 2, for a second: 144 bytes.
-- Its mode is that of a file which all may read and its owner write, it has one name, and its blocks
-- have 4,096 bytes.
abbrev pub file_reply : List ℕ
file_reply =
    (four 144 ++ (four 0 ++ eight 9))
    ++ ((eight 2 ++ (eight 0 ++ (eight 1 ++ (eight 1 ++ eight 0))))
    ++ ((eight 2 ++ (eight 5 ++ replicate 44 0))
    ++ ((0xa4 ∷ 0x81 ∷ 0 ∷ 0 ∷ four 1) ++ (replicate 13 0 ++ (0x10 ∷ replicate 6 0)))))

-- A server of files in memory handled a LOOKUP, which delivered node 2, and a FORGET, which gave it
-- back: these two turns are its history, and their books are kept. The file system answered one entry of
-- node 2, and was sent one forget of it; and no count of a node but 0 fell below zero.
pub record LooksUpAndForgets (old : ServerState Stock) (looked gave : Turn) (new : ServerState Stock)
    : Type 0 where
  pub history : IsHistory MemFsAllows GivesFirst old (Handled looked ∷ Handled gave ∷ []) new
  pub books : KeepsBooks (looked ∷ gave ∷ [])
  pub delivered_once : delivered 2 looked ≡ 1
  pub accepted_once : accepted 2 gave ≡ 1
  pub answered_once : answered 2 (events_in (looked ∷ gave ∷ [])) ≡ 1
  pub sent_once : sent 2 (events_in (looked ∷ gave ∷ [])) ≡ 1
  pub never_below : (n : ℕ) → n ≢ 0 → NeverBelow n (events_in (looked ∷ gave ∷ []))
