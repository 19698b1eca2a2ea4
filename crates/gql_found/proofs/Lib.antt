mod Lists
mod Names
mod RegistryFiles
mod Picked
mod Marks
mod Serving
mod Found
mod Homes
