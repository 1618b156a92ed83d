pub mod Arguments
pub mod FaultLines
pub mod Reports
