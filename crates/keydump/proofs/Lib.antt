mod Grown
mod Behind
mod Pairs
