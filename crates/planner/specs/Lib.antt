-- The operation Plan. Definitions that the contract cites stand in Operation.
pub mod Operation
pub mod OperationLaws
