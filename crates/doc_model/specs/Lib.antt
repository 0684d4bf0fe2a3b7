pub mod Store
pub mod Insert
pub mod Change
pub mod Step
pub mod Named
pub mod Run
pub mod Laws
