pub mod ZeroBits
