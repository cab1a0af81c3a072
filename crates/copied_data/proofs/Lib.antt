pub mod CopiedData
