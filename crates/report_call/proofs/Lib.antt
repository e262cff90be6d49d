-- Laws of the code of the report: its text, packets, a clean take, converting and the other steps; and what shows that the contracts of
-- the steps say something. The laws of the report itself are in report_spec.
pub mod Told
pub mod Packets
pub mod Steps
pub mod Convert
pub mod Sound
pub mod Once
