use Rattle.std.proofs.Common.{rules}
use Rattle.nizwarf_tree.proofs.nizwarf_server_new_at.Goals as goal

pub returns-then-page_size-lt4096-clause-page : goal.returns-then-page_size-lt4096-clause-page
returns-then-page_size-lt4096-clause-page c = search rules

pub returns-then-page_size-lt4096-clause-least : goal.returns-then-page_size-lt4096-clause-least
returns-then-page_size-lt4096-clause-least c = search rules

pub returns-then-page_size-lt4096-clause-greatest : goal.returns-then-page_size-lt4096-clause-greatest
returns-then-page_size-lt4096-clause-greatest c = search rules
