mod Joined
mod Nothing
