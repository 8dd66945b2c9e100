-- A tree that is told the time, or what its client offers, is one.
use Rattle.std.proofs.Common.{◌≡◌, ◌<◌, ℕ, zero, suc, true, List, [], ◌∷◌, Option, Some, None, IfSome, refl, ◌∙◌}
use Rattle.std.specs.List.{All, AllByRecursion}
use Rattle.std.proofs.lemmas.List.Elements.{All-from_recursion, recursion_from_All}
use Rattle.fs_tree.specs.Children.{Link, is_directory}
use Rattle.fs_tree.specs.Rename.{parent_of}
use Rattle.fs_tree.specs.State.{State, node_at}
use Rattle.fs_nodes.specs.declared.children.Child.{Child}
use Rattle.fs_nodes.specs.declared.node.Node.{Node}
use Rattle.fs_nodes.specs.declared.node.Time.{Time}
use Rattle.laws_tree.specs.Laws.{IsSound, IsWithin, IsLinked, IsNamed, IsRooted, IsTree, Leads, above}
use Rattle.laws_tree.specs.Histories.{TellingLeavesLookups}

module _ (s : State) (now : Time) (offered : ℕ) where
  abbrev told : State
  told = record s { now = now; offered = offered }

  leads : (d : ℕ) (child : Child) (o : Option Node) → Leads s d child o → Leads told d child o
  leads d child None h = h
  leads d child (Some node) h = h

  lead_each : (d : ℕ) (links : List (ℕ × Link)) → AllByRecursion (λ link. Leads s d link.1.child (node_at s link.1.child.node)) links
      → AllByRecursion (λ link. Leads told d link.1.child (node_at told link.1.child.node)) links
  lead_each d [] h = h
  lead_each d (l ∷ ls) h = (leads d l.1.child (node_at s l.1.child.node) h.0, lead_each d ls h.1)

  lead_all : (d : ℕ) (links : List (ℕ × Link)) → All (λ link. Leads s d link.1.child (node_at s link.1.child.node)) links
      → All (λ link. Leads told d link.1.child (node_at told link.1.child.node)) links
  lead_all d links h =
      All-from_recursion (λ link. Leads told d link.1.child (node_at told link.1.child.node)) links
      (lead_each d links (recursion_from_All (λ link. Leads s d link.1.child (node_at s link.1.child.node)) links h))

  named : (n : ℕ) (o : Option Node) → IfSome o (IsNamed s n) → IfSome o (IsNamed told n)
  named n None h = h
  named n (Some node) h = record {
    apart = h.apart;
    leads = lead_all n node.children.links h.leads;
    files = h.files;
    nameless = h.nameless;
    single = h.single;
  }

  same_above : (k n : ℕ) → above told k n ≡ above s k n
  same_above zero n = refl
  same_above (suc k) n = same_above k (parent_of (node_at s n))

  rooted : (n : ℕ) (o : Option Node)
      → IfSome o (λ node. is_directory node.kind ≡ true → 0 < node.names → (k : ℕ) × (above s k n ≡ 1))
      → IfSome o (λ node. is_directory node.kind ≡ true → 0 < node.names → (k : ℕ) × (above told k n ≡ 1))
  rooted n None h = h
  rooted n (Some node) h = λ directory some. let r = h directory some in (r.0, same_above r.0 n ∙ r.1)

  pub told_sound : IsSound s → IsSound told
  told_sound sound = record { ordered = sound.ordered; held = sound.held }

  pub told_within : IsWithin s → IsWithin told
  told_within within = record {
    used = within.used;
    bytes = within.bytes;
    counted = within.counted;
    inodes = within.inodes;
    files = within.files;
  }

  pub told_linked : IsLinked s → IsLinked told
  told_linked linked = record {
    root = linked.root;
    top = linked.top;
    counted = linked.counted;
    named = λ n. named n (node_at s n) (linked.named n);
  }

  pub told_rooted : IsRooted s → IsRooted told
  told_rooted r n = rooted n (node_at s n) (r n)

  told_tree : IsTree s → IsTree told
  told_tree t = record {
    sound = told_sound t.sound;
    within = told_within t.within;
    linked = told_linked t.linked;
    rooted = told_rooted t.rooted;
  }

pub telling : TellingLeavesLookups
telling s now = record { tree = told_tree s now s.offered; lookups = λ n. refl }
