-- complete
mod Told
