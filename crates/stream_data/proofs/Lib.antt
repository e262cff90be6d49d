pub mod DataPart
