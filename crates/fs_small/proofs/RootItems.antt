-- The items of the root, place by place.
use Rattle.std.proofs.Common.{◌≡◌, ◌≤◌, ℕ, zero, suc, ◌+◌, ◌-◌, List, [], ◌∷◌, ◌++◌, length, take, drop, Some, refl, sym, ap, ◌∙◌, arith, append_assoc}
use Rattle.std.specs.List.{slice_get}
use Rattle.std.proofs.lemmas.List.{append_cancel_left, take-append-drop, take_all, take_more}
use Rattle.std.proofs.lemmas.Option.{slice_get_within, get_or_from_slice_get}
use Rattle.vfs_files.specs.Values.{Item}
use Rattle.fs_small.specs.MemFs.{Stored, file_item, file_items, root_items}

-- the item of a file in its place
slice_get-file_items : (offset : ℕ) (files : List Stored) (place : ℕ) (file : Stored)
    → slice_get files place ≡ Some file
    → slice_get (file_items offset files) place ≡ Some (file_item (offset + place) file)
slice_get-file_items offset [] place file is = cc
slice_get-file_items offset (f ∷ fs) zero file is =
    let same : f ≡ file = cc in
    let here : offset ≡ offset + zero = omega arith in
    ap (λ x. Some (file_item offset x)) same ∙ ap (λ o. Some (file_item o file)) here
slice_get-file_items offset (f ∷ fs) (suc place) file is =
    let here : offset + 1 + place ≡ offset + suc place = omega arith in
    slice_get-file_items (offset + 1) fs place file is ∙ ap (λ o. Some (file_item o file)) here

-- the files come after `.` and `..`
pub slice_get-root_items : (files : List Stored) (place : ℕ) (file : Stored) → 2 ≤ place
    → slice_get files (place - 2) ≡ Some file
    → slice_get (root_items files) place ≡ Some (file_item (place + 1) file)
slice_get-root_items files zero file following is = absurd (omega arith)
slice_get-root_items files (suc zero) file following is = absurd (omega arith)
slice_get-root_items files (suc (suc k)) file following is =
    let from : suc (suc k) - 2 ≡ k = omega arith in
    let offset : 3 + k ≡ suc (suc k) + 1 = omega arith in
    slice_get-file_items 3 files k file (rw from at is) ∙ ap (λ o. Some (file_item o file)) offset

-- there are two more items than files
length-file_items : (offset : ℕ) (files : List Stored)
    → length (file_items offset files) ≡ length files
length-file_items offset [] = refl
length-file_items offset (f ∷ fs) = ap suc (length-file_items (offset + 1) fs)

-- after the items that are skipped an item more
pub items_more : (all items : List Item) (off place : ℕ) (item : Item)
    → take off all ++ items ≡ take place all → slice_get all place ≡ Some item
    → take off all ++ (items ++ item ∷ []) ≡ take (place + 1) all
items_more all items off place item so_far is =
    sym (append_assoc (take off all) items (item ∷ [])) ∙ ap (λ l. l ++ item ∷ []) so_far
    ∙ ap (λ x. take place all ++ x ∷ []) (sym (get_or_from_slice_get all place item item is))
    ∙ sym (take_more all place item (slice_get_within all place item is))

-- the items after those that are skipped, at the end
pub items_whole : (files : List Stored) (items : List Item) (off place : ℕ)
    → length files + 2 ≤ place
    → take off (root_items files) ++ items ≡ take place (root_items files)
    → items ≡ drop off (root_items files)
items_whole files items off place past so_far =
    let all = root_items files in
    let long : length all ≤ place = omega (arith, length-file_items 3 files) in
    append_cancel_left (take off all) items (drop off all)
    (so_far ∙ take_all place all long ∙ sym (take-append-drop off all))
