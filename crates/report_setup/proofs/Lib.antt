-- Laws of the parts of a sheet, as the code finds them.
pub mod Laws
