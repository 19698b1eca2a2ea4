mod Cutting
mod Loading
