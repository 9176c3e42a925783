mod Places
mod Faults
mod Opened
