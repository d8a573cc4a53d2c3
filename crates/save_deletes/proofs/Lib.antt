mod Lists
mod Sets
mod Going
mod Down
