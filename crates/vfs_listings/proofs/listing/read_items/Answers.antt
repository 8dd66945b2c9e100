use Rattle.std.proofs.Common.{Option, subst, arith}
use Rattle.vfs_files.specs.declared.directory.DirEntry.{DirEntry}
use Rattle.vfs_files.specs.Values.{item, item_of}
use Rattle.vfs_listings.proofs.Filling.{filling_start, filling_more, filling_end, filling_full, filling_failed}
use Rattle.vfs_listings.proofs.listing.read_items.Goals as goal

pub items-init : goal.items-init
items-init g c = filling_start _ _ _ _ _ _ _ _ _

pub returns-in-None : goal.returns-in-None
returns-in-None g c =
    let given = subst (λ (r : Option DirEntry). g.F.DirIter.DirectoryIterator.gives c.items.it
    (item_of r) c.next.follows.lender-at-none) c.in-None.is c.next.follows.holds-at-none in
    filling_end _ _ _ _ _ _ _ _ _ c.items.invariant given

pub returns-in-Ok-eq0 : goal.returns-in-Ok-eq0
returns-in-Ok-eq0 g c =
    let given = subst (λ (r : Option DirEntry). g.F.DirIter.DirectoryIterator.gives c.items.it
    (item_of r) c.next.follows.lender-at-none) c.in-Some.is c.next.follows.holds-at-none in
    let added = rw c.in-Ok-eq0.field-0-test at c.in-Ok-eq0.ensures in
    filling_full _ _ _ _ _ _ _ _ _ c.items.invariant (item c.in-Some.entry) given added

pub items-preserved : goal.items-preserved
items-preserved g c =
    let given = subst (λ (r : Option DirEntry). g.F.DirIter.DirectoryIterator.gives c.items.it
    (item_of r) c.next.follows.lender-at-none) c.in-Some.is c.next.follows.holds-at-none in
    filling_more _ _ _ _ _ _ _ _ _ c.items.invariant (item c.in-Some.entry) given c.in-Ok.ensures
    (omega arith)

pub returns-in-Err : goal.returns-in-Err
returns-in-Err g c =
    let given = subst (λ (r : Option DirEntry). g.F.DirIter.DirectoryIterator.gives c.items.it
    (item_of r) c.next.follows.lender-at-none) c.in-Some.is c.next.follows.holds-at-none in
    filling_failed _ _ _ _ _ _ _ _ _ c.items.invariant (item c.in-Some.entry) given c.in-Err.ensures
    c.tell.ensures
