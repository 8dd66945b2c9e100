-- Requests of rows whose calls are both told and answered in examples: a GETLK and an IOCTL.
use Rattle.std.specs.Prelude.{◌++◌, ℕ, List}
use Rattle.vfs_grammar.specs.Samples.{eight, four, header_9, zeros}

-- request 9: a GETLK of bytes 10 to 20 of node 1, open as 3, of the owner 4: a lock of flock, of type 1 (F_WRLCK)
-- and of the process 77
abbrev pub getlk : List ℕ
getlk =
    header_9 88 31
    ++ (eight 3 ++ (eight 4 ++ (eight 10 ++ (eight 20 ++ (four 1 ++ (four 77 ++ (four 1 ++ zeros 4)))))))

-- request 9: an IOCTL of node 1, open as 3, with the flag 16 (FUSE_IOCTL_DIR), the command 5 and the argument 6,
-- with eight bytes of input, and for at most 4 of output
abbrev pub ioctl : List ℕ
ioctl =
    header_9 80 39
    ++ (eight 3 ++ (four 16 ++ (four 5 ++ (eight 6 ++ (four 8 ++ (four 4 ++ eight 7))))))

-- request 9: an IOCTL of node 1 with this much input and eight bytes of it
abbrev pub ioctl_with : (in_size : ℕ) → List ℕ
ioctl_with in_size = header_9 80 39 ++ (zeros 24 ++ (four in_size ++ (zeros 4 ++ eight 7)))
