mod ArmNoting
mod Causes
mod Noting
