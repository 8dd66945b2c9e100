use Rattle.std.proofs.Common.{◌≡◌, nat_cmp, ◌∙◌, ap, false}
use Rattle.std.specs.Map.{keys_of, remove_entry}
use Rattle.std.specs.BTreeMap.{is_at}
use Rattle.std.specs.BTreeSet.{insert_key}
use Rattle.fs_nodes.specs.Pages.{Pages, byte_at, holds}
use Rattle.fs_nodes.proofs.HeldPages.{keys-insert_entry, remove-insert, lookup_free, bytes_added}
use Rattle.fs_nodes.proofs.pages.Pages.add.Goals as goal

pub returns-in-Ok-insert-clause-keys : goal.returns-in-Ok-insert-clause-keys
returns-in-Ok-insert-clause-keys c =
    ap keys_of c.in-Ok-insert.ensures.entries
    ∙ keys-insert_entry c.self.inside.pages.entries c.args.page c.in-Ok.bytes
    ∙ ap (λ (es : Pages). insert_key nat_cmp (keys_of es) c.args.page) c.self.view_is

pub returns-in-Ok-insert-clause-same : goal.returns-in-Ok-insert-clause-same
returns-in-Ok-insert-clause-same c =
    λ place.
    let old = c.self.inside.pages.entries in
    let free : holds (keys_of old) c.args.page ≡ false =
    ap (λ (es : Pages). holds (keys_of es) c.args.page) c.self.view_is ∙ c.requires in
    bytes_added old c.insert.new.self.entries c.args.page c.in-Ok.bytes 0
    (lookup_free old c.args.page free) c.in-Ok-insert.ensures.updates.1 c.in-Ok-insert.ensures.updates.2
    c.in-Ok.ensures.items place
    ∙ ap (λ (es : Pages). byte_at es place) c.self.view_is

pub returns-in-Ok-insert-clause-undone : goal.returns-in-Ok-insert-clause-undone
returns-in-Ok-insert-clause-undone c =
    let old = c.self.inside.pages.entries in
    let free : holds (keys_of old) c.args.page ≡ false =
    ap (λ (es : Pages). holds (keys_of es) c.args.page) c.self.view_is ∙ c.requires in
    ap (remove_entry (is_at (nat_cmp c.args.page))) c.in-Ok-insert.ensures.entries
    ∙ remove-insert old c.args.page c.in-Ok.bytes (lookup_free old c.args.page free)
    ∙ c.self.view_is
