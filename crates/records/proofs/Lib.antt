pub mod Misfits
pub mod KindRows
pub mod Numbers
pub mod RoundTrips
pub mod Inputs
pub mod Entries
