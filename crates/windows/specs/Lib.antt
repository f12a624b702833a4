pub mod Model
pub mod Results
pub mod Table
