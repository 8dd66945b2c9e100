-- A list of one room.
use Rattle.std.proofs.Common.{◌≡◌, ◌≤◌, ◌+◌, ◌-◌, ℕ, List, [], ◌∷◌, ◌++◌, length, drop, length-drop, arith, ap, sym, ◌∙◌, append-nil, vec_len}
use Rattle.std.proofs.lemmas.List.{length-append, length-map, nil_from_length}
use Rattle.std.specs.declared.vec.Vec.{Vec}
use Rattle.std.specs.declared.alloc.Global.{Global}
use Rattle.vfs_segments.specs.Segments.{contents, flat_bytes, lengths_of}

-- the last room of a list of one has all of its bytes
pub only_room : (rest : List (Vec ℕ Global)) (room : Vec ℕ Global)
    → length (lengths_of (contents (rest ++ room ∷ []))) ≡ 1
    → room.items ≡ flat_bytes (contents (rest ++ room ∷ []))
only_room rest room one =
    let all : List (Vec ℕ Global) = rest ++ room ∷ [] in
    let n : length (lengths_of (contents all)) ≡ length all = length-map (contents all) length ∙ length-map all (λ (v : Vec ℕ Global). v.items) in
    let m : length all ≡ length rest + 1 = length-append rest (room ∷ []) in
    let none : rest ≡ [] = nil_from_length rest (omega (arith, n, m, one)) in
    rw none (sym (append-nil room.items))

-- of a room whose last bytes alone are not passed over, that many are left
pub end_left : (room : Vec ℕ Global) (total : ℕ) → total ≤ vec_len room
    → length (drop (vec_len room - total) (flat_bytes (contents (room ∷ [])))) ≡ total
end_left room total within =
    let all : List ℕ = flat_bytes (contents (room ∷ [])) in
    let long : length all ≡ vec_len room = ap length (append-nil room.items) ∙ sym room.ok.0 in
    let left : length (drop (vec_len room - total) all) ≡ length all - (vec_len room - total) = length-drop _ _ in
    omega (arith, within, long, left)
