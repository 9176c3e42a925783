mod Kept
mod Senders
mod Reported
