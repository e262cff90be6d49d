pub mod Field
pub mod Padding
pub mod RecordFaults
pub mod Tests
pub mod Users
pub mod Walking
