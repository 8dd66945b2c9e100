use Rattle.vfs_files.proofs.Texts.{name_is_found, found_is_name}
use Rattle.vfs_files.proofs.laws.names_end_at_their_only_nul.Goals as goal

pub returns-clause-named : goal.returns-clause-named
returns-clause-named g = found_is_name

pub returns-clause-found : goal.returns-clause-found
returns-clause-found g = name_is_found
