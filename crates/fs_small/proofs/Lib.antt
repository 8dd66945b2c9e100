mod Items
mod FilesAt
mod Index
mod Indexed
mod RootItems
mod Searches
