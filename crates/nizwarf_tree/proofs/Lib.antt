mod Crosses
mod Offering
mod Asking
mod Steps
mod RowTurns
mod Histories
mod Calling
mod TreeNothingFound
mod TreeNothingTaken
mod TreeMessageTaken
mod TreeTmpfile
mod TreeRows
mod Texts
mod TreeKept
pub mod Keeping
