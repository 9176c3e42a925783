pub mod RemoteNode
