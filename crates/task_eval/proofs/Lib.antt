mod Examples
mod Rows
mod Arguments
mod Asking
mod Advancing
