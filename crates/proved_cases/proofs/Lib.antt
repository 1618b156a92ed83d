mod Computed
mod Days
mod Rows
mod Told
