pub mod KeyGoing
pub mod Serviced
