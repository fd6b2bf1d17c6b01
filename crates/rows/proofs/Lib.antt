pub mod Nan
pub mod Records
pub mod Lacking
pub mod Exact
