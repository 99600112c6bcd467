mod Calls
mod Examples
mod Steps
mod Tables
