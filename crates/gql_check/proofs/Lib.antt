mod Lists
mod Names
mod Refused
mod Found
