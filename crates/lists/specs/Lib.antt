-- Lists: how every sum, search, count and written list of the kernel is said. Definitions only.

pub mod Lists
